mod SeedsInShares
mod TriedScripts
