-- WriterSlotLemmas: What a slot's borrowed writer holds, also once the buffer over it is empty.
-- Sharing: The first items of shares of many items, and the results of the shares.
pub mod WriterSlotLemmas
pub mod Sharing
