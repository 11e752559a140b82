-- Snapshots: a content as bytes, and the way back.
-- Rules: Objects 3
use Rattle.std.specs.Prelude.{◌≡◌, ℕ, ◌^◌, ◌<◌, List, length, Option, Some, None, Result, MatchResult}
use Rattle.ring_base.specs.declared.fault.Fault.{Fault}
use Rattle.ring_base.specs.declared.fault.Fault.TheVariants.{Memory, BadSnapshot}
use Rattle.ring_object.specs.Bytes.{AreBytes}

-- exactly the snapshots of valid contents are restored, each to its content
pub record HasExactSnapshots {O : Type 0} (IsContent : O → Type 0) (snapshot_of : O → List ℕ) (restored : List ℕ → Option O) : Type 0 where
  pub same : (o : O) → IsContent o → length (snapshot_of o) < 2 ^ 64 → restored (snapshot_of o) ≡ Some o
  pub only : (bytes : List ℕ) (o : O) → AreBytes bytes → restored bytes ≡ Some o → IsContent o × (snapshot_of o ≡ bytes)

-- the refusal is allowed: `BadSnapshot` if the bytes are no snapshot, `Memory` only if they are one
abbrev pub IsSnapshotRefusal : {O : Type 0} → Option O → Fault → Type 0
IsSnapshotRefusal None fault = fault ≡ BadSnapshot
IsSnapshotRefusal (Some o) fault = fault ≡ Memory

-- the result is allowed: the content, if the bytes are a snapshot, or a refusal
abbrev pub IsRestoreResult : {O : Type 0} → Option O → Result O Fault → Type 0
IsRestoreResult content answer = MatchResult answer (λ restored. content ≡ Some restored) (IsSnapshotRefusal content)
