use Rattle.std.proofs.Common.{◌∙◌, arith}
use Rattle.std.proofs.lemmas.List.{length-take, length-drop}
use Rattle.ring_codec.proofs.NumbersInBytes.{word_inside, word_of}
use Rattle.ring_codec.proofs.encoded_numbers.EncodedNumbers.number.Goals as goal

pub overflow_mul-index : goal.overflow_mul-index
overflow_mul-index c =
    let inside = word_inside c.self.inside.count c.args.index c.self.inside.bytes.now c.args.self.now c.self.view_is c.self.invariant c.requires in
    omega (arith, inside, c.self.told.0)

pub slice_bounds-read_u64-start : goal.slice_bounds-read_u64-start
slice_bounds-read_u64-start c = omega (
  arith,
  word_inside c.self.inside.count c.args.index c.self.inside.bytes.now c.args.self.now c.self.view_is c.self.invariant
      c.requires,
)

pub slice_bounds-read_u64-count : goal.slice_bounds-read_u64-count
slice_bounds-read_u64-count c = omega (
  arith,
  word_inside c.self.inside.count c.args.index c.self.inside.bytes.now c.args.self.now c.self.view_is c.self.invariant
      c.requires,
)

pub read_u64-requires : goal.read_u64-requires
read_u64-requires c =
    let inside = word_inside c.self.inside.count c.args.index c.self.inside.bytes.now c.args.self.now c.self.view_is c.self.invariant c.requires in
    rw (length-take _ _, length-drop _ _) (omega (arith, inside))

pub returns : goal.returns
returns c = c.read_u64.ensures ∙ word_of c.self.inside.count c.args.index c.self.inside.bytes.now c.args.self.now c.self.view_is c.self.invariant c.requires
