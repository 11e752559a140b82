-- Frames taken from the front of an input, and the progress of a listing.
use Rattle.std.proofs.Common.{◌≡◌, ℕ, ◌+◌, ◌-◌, ◌≤◌, true, false, List, [], ◌∷◌, ◌++◌, length, take, drop, Option, Some}
use Rattle.std.proofs.Common.{None, Result, Ok, Err, inl, inr, refl, sym, ap, subst, ◌∙◌, arith, append_assoc}
use Rattle.std.specs.Prelude.{◌≢◌, ◌⊎◌, IsSome, IfSome, IsOk, OnOk, IfErr}
use Rattle.std.specs.Io.Iter.{u64_saturate}
use Rattle.std.specs.Io.KnownBytes.{Keeps, Appends, Consumes, IsAtEnd, prepend_known}
use Rattle.std.proofs.lemmas.List.{take-append-drop, take_at, take-append-le, append-nil, drop-drop, length-drop, length-append, flat_map_more}
use Rattle.std.proofs.KnownBytes.{Appends-trans}
use Rattle.std.proofs.lemmas.List.Elements.{All-push}
use Rattle.ring_base.proofs.ListFronts.{rest_whole}
use Rattle.ring_wire.specs.Frames.{encoding_of, FrameFits, length-frame}
use Rattle.ring_wire.specs.Prefixes.{IsEncodedPrefix}
use Rattle.ring_wire.specs.declared.frame.Frame.{Frame}
use Rattle.ring_base.specs.declared.fault.Fault.TheVariants.{Memory}
use Rattle.ring_failure.specs.declared.failure.Failure.{Failure}
use Rattle.ring_failure.specs.declared.failure.Failure.TheVariants.{Refused, BadFrame, BadScript, Output}
use Rattle.ring_failure.specs.Texts.{line_of}
use Rattle.ring_console.specs.declared.frame_reader.InputState.{InputState}
use Rattle.ring_console.specs.declared.frame_reader.InputState.TheVariants.{Open, Ended, Failed}
use Rattle.ring_console.specs.FrameLines.{frame_text, listing_of}
use Rattle.ring_console.specs.declared.frame_reader.FrameReader.{FrameReader}
use Rattle.ring_console.specs.Listings.{encodings_of, BeginsWithNoFrame, unread_bytes, left_of, IsEndRight, IsNext, IsStop, AreListed, IsListed, IsCut, IsCutListing}
use Rattle.ring_base.specs.Numbers.{max_frame_bytes}

-- ---- one frame.

-- A decoded frame was a prefix of the bytes from a place on.
pub got_front : {A : Type 0} (bytes : List ℕ) (start n : ℕ) (frame : Frame A) → IsEncodedPrefix encoding_of FrameFits
    (take (length bytes - start) (drop start bytes)) frame n
    → (drop start bytes ≡ encoding_of frame ++ drop (start + n) bytes) × (length (encoding_of frame) ≡ n)
got_front bytes start n frame got =
    let rest = drop start bytes in
    let whole = rest_whole start bytes in
    let front : take n rest ≡ encoding_of frame = subst (λ (t : List ℕ). take n t ≡ encoding_of frame) whole got.front in
    let within : n ≤ length rest = subst (λ (t : List ℕ). n ≤ length t) whole got.within in
    let parts : rest ≡ take n rest ++ drop n rest = sym (take-append-drop n rest) in
    let after : drop n rest ≡ drop (start + n) bytes = drop-drop n start bytes in
    let sizes = ap length parts ∙ length-append (take n rest) (drop n rest) in
    let left = length-drop n rest in
    let size : length (take n rest) ≡ n = omega arith in
    (parts ∙ ap (λ (t : List ℕ). t ++ drop n rest) front ∙ ap (λ (t : List ℕ). encoding_of frame ++ t) after, sym (ap length front) ∙ size)

-- A frame decoded from there in place is the next one.
pub next_put : {A : Type 0} (bytes : List ℕ) (start n from to : ℕ) (place : Option (Frame A)) → IsSome place
    → IfSome place (λ (frame : Frame A). IsEncodedPrefix encoding_of FrameFits (take (length bytes - start) (drop start bytes)) frame n) → to ≡ u64_saturate (from + n)
    → IsNext (Some (drop start bytes)) (Some (drop (start + n) bytes)) from to place
next_put bytes start n from to None some got place = absurd (let no : false ≡ true = some in cc)
next_put bytes start n from to (Some frame) some got place =
    let front = got_front bytes start n frame got in
    (got.fits, front.0, place ∙ ap (λ (m : ℕ). u64_saturate (from + m)) (sym front.1))

-- If at least this number of bytes begins with no frame, a longer text doesn't either.
pub none_longer : (A : Type 0) (bytes more : List ℕ) → max_frame_bytes ≤ length bytes → BeginsWithNoFrame A bytes → BeginsWithNoFrame A (bytes ++ more)
none_longer A bytes more long none frame rest fits e =
    let n = length (encoding_of frame) in
    let short = length-frame frame fits in
    let within : n ≤ length bytes = omega (arith, short, long) in
    let front : take n bytes ≡ encoding_of frame = sym (take-append-le n bytes more within) ∙ ap (take n) e ∙ take_at (encoding_of frame) rest n refl in
    none frame (drop n bytes) fits (sym (take-append-drop n bytes) ∙ ap (λ (t : List ℕ). t ++ drop n bytes) front)

-- ---- the bytes read ahead, and those still to be read.

-- The next frame of the bytes read ahead is the next of the whole rest.
pub next_of_all : {A : Type 0} (bytes bytes' : List ℕ) (rest : Option (List ℕ)) (from to : ℕ)
    (next : Option (Frame A)) → IsNext (Some bytes) (Some bytes') from to next
    → (next ≡ None → IsAtEnd rest) → IsNext (prepend_known bytes rest) (prepend_known bytes' rest) from to next
next_of_all bytes bytes' None from to None (same, none) end = (tt, tt)
next_of_all bytes bytes' (Some xs) from to None (same, none) end =
    (ap (λ (t : List ℕ). t ++ xs) same, ap (λ (t : List ℕ). t ++ xs) none ∙ end refl)
next_of_all bytes bytes' None from to (Some frame) (fits, taken, passed) end = (fits, tt, passed)
next_of_all bytes bytes' (Some xs) from to (Some frame) (fits, taken, passed) end =
    (fits, ap (λ (t : List ℕ). t ++ xs) taken ∙ append_assoc (encoding_of frame) bytes' xs, passed)

-- If enough was read ahead, or nothing more can be read, a stop there is a stop of the whole rest.
pub stop_of_all : (A : Type 0) (bytes : List ℕ) (rest : Option (List ℕ)) (from : ℕ) (state : InputState)
    (failure : Failure) → IsStop A (Some bytes) (Some []) from state failure
    → (state ≡ Open → max_frame_bytes ≤ length bytes) → (state ≡ Ended → IsAtEnd rest) → IsStop A (prepend_known bytes rest) rest from state failure
stop_of_all A bytes rest from state (Refused fault) stop enough ended = stop
stop_of_all A bytes None from Failed (BadFrame byte) stop enough ended = (stop.0, stop.1, tt, stop.3)
stop_of_all A bytes (Some xs) from Failed (BadFrame byte) stop enough ended =
    (stop.0, stop.1, ap (λ (t : List ℕ). t ++ xs) (sym (append-nil stop.1) ∙ stop.2), stop.3)
stop_of_all A bytes None from Open (BadFrame byte) stop enough ended = (stop.0, tt)
stop_of_all A bytes None from Ended (BadFrame byte) stop enough ended = (stop.0, tt)
stop_of_all A bytes (Some xs) from Open (BadFrame byte) stop enough ended = (stop.0, none_longer A bytes xs (enough refl) stop.1)
stop_of_all A bytes (Some xs) from Ended (BadFrame byte) stop enough ended =
    (stop.0, subst (BeginsWithNoFrame A) (sym (ap (λ (t : List ℕ). bytes ++ t) (ended refl) ∙ append-nil bytes)) stop.1)
stop_of_all A bytes rest from state (BadScript line) stop enough ended = absurd stop
stop_of_all A bytes rest from state Output stop enough ended = absurd stop

-- If reading did not fail and no frame begins there, this byte is the reported one.
pub stop_here : (A : Type 0) (bytes : List ℕ) (from : ℕ) (state : InputState) → (state ≡ Failed → ⊥)
    → BeginsWithNoFrame A bytes → IsStop A (Some bytes) (Some []) from state (BadFrame from)
stop_here A bytes from Open unfailed none = (refl, none)
stop_here A bytes from Ended unfailed none = (refl, none)
stop_here A bytes from Failed unfailed none = absurd (unfailed refl)

-- If reading failed and no frame begins in the bytes that were read, byte 0 is the reported one.
pub stop_failed : (A : Type 0) (bytes : List ℕ) (from : ℕ) (state : InputState) → state ≡ Failed
    → BeginsWithNoFrame A bytes → IsStop A (Some bytes) (Some []) from state (BadFrame 0)
stop_failed A bytes from Open failed none = absurd cc
stop_failed A bytes from Ended failed none = absurd cc
stop_failed A bytes from Failed failed none = (refl, bytes, append-nil bytes, none)

-- ---- after a step that keeps the rest of the input.

pub next_after : {A : Type 0} (old mid new : Option (List ℕ)) (from to : ℕ) (next : Option (Frame A)) → Keeps old mid
    → IsNext mid new from to next → IsNext old new from to next
next_after None mid new from to None kept (same, end) = (tt, end)
next_after (Some xs) (Some ys) (Some zs) from to None kept (same, end) = (same ∙ kept, end)
next_after (Some xs) (Some ys) None from to None kept (same, end) = absurd same
next_after (Some xs) None new from to None kept next = absurd kept
next_after None mid new from to (Some frame) kept (fits, taken, passed) = (fits, tt, passed)
next_after (Some xs) (Some ys) (Some zs) from to (Some frame) kept (fits, taken, passed) = (fits, sym kept ∙ taken, passed)
next_after (Some xs) (Some ys) None from to (Some frame) kept (fits, taken, passed) = absurd taken
next_after (Some xs) None new from to (Some frame) kept next = absurd kept

keeps_both : (old mid new : Option (List ℕ)) → Keeps old mid → Keeps mid new → Keeps old new
keeps_both None mid new kept more = tt
keeps_both (Some xs) None new kept more = absurd kept
keeps_both (Some xs) (Some ys) None kept more = absurd more
keeps_both (Some xs) (Some ys) (Some zs) kept more = more ∙ kept

pub stop_after : (A : Type 0) (old mid rest : Option (List ℕ)) (from : ℕ) (state : InputState) (failure : Failure)
    → Keeps old mid → IsStop A mid rest from state failure → IsStop A old rest from state failure
stop_after A old mid rest from state (Refused fault) kept stop = stop
stop_after A old mid rest from Failed (BadFrame byte) kept stop =
    (stop.0, stop.1, keeps_both old mid (prepend_known stop.1 rest) kept stop.2, stop.3)
stop_after A None mid rest from Open (BadFrame byte) kept stop = (stop.0, tt)
stop_after A None mid rest from Ended (BadFrame byte) kept stop = (stop.0, tt)
stop_after A (Some xs) None rest from Open (BadFrame byte) kept stop = absurd kept
stop_after A (Some xs) None rest from Ended (BadFrame byte) kept stop = absurd kept
stop_after A (Some xs) (Some ys) rest from Open (BadFrame byte) kept stop = (stop.0, subst (BeginsWithNoFrame A) kept stop.1)
stop_after A (Some xs) (Some ys) rest from Ended (BadFrame byte) kept stop = (stop.0, subst (BeginsWithNoFrame A) kept stop.1)
stop_after A old mid rest from state (BadScript line) kept stop = absurd stop
stop_after A old mid rest from state Output kept stop = absurd stop

-- ---- a result's facts.

-- A fact that two facts at `Ok` imply there.
pub both_at_ok : {T E : Type 0} (r : Result T E) (P Q R : Type 0) → OnOk r P → OnOk r Q → (P → Q → R) → OnOk r R
both_at_ok (Ok x) P Q R p q more = more p q
both_at_ok (Err e) P Q R p q more = tt

-- A fact that a fact at `Err` implies there.
pub weaker_at_err : {T E : Type 0} (r : Result T E) (P Q : E → Type 0) → IfErr r P → ((e : E) → P e → Q e) → IfErr r Q
weaker_at_err (Ok x) P Q told more = tt
weaker_at_err (Err e) P Q told more = more e told

-- ---- a listing that goes on.

-- Some frames were a prefix of the input and are listed, and the next begins where `frame_reader` says.
pub record IsSoFar {A : Type 0} (frame_reader : FrameReader A) (input input' out out' : Option (List ℕ)) : Type 0 where
  pub frames : List (Frame A)
  pub lists : AreListed input (left_of frame_reader input') out out' frames
  pub position : frame_reader.next_frame_offset ≡ u64_saturate (length (encodings_of frames))
  pub ended : IsEndRight frame_reader input'

consumes_none : (bytes : List ℕ) (input : Option (List ℕ)) → bytes ≡ [] → Consumes input (prepend_known bytes input) []
consumes_none bytes None e = tt
consumes_none bytes (Some xs) e = sym (ap (λ (t : List ℕ). t ++ xs) e)

consumes_same : (input : Option (List ℕ)) → Consumes input input []
consumes_same None = tt
consumes_same (Some xs) = refl

appends_none : (out : Option (List ℕ)) → Appends out out []
appends_none None = tt
appends_none (Some xs) = sym (append-nil xs)

-- Nothing is read yet.
pub so_far_none : {A : Type 0} (frame_reader : FrameReader A) (input out : Option (List ℕ)) → unread_bytes frame_reader ≡ []
    → frame_reader.next_frame_offset ≡ 0 → frame_reader.state ≡ Open → IsSoFar frame_reader input input out out
so_far_none frame_reader input out empty first fresh = record {
  frames = [];
  lists = record { fit = λ k d low. absurd (omega arith); read = consumes_none (unread_bytes frame_reader) input empty; printed = appends_none out };
  position = first;
  ended = λ ended. absurd (let e : Open ≡ Ended = sym fresh ∙ ended in cc);
}

consumes_more : (a b c : Option (List ℕ)) (xs ys : List ℕ) → Consumes a b xs → Consumes b c ys → Consumes a c (xs ++ ys)
consumes_more None b c xs ys h k = tt
consumes_more (Some as') None c xs ys h k = absurd h
consumes_more (Some as') (Some bs) None xs ys h k = absurd k
consumes_more (Some as') (Some bs) (Some cs) xs ys h k = h ∙ ap (λ (t : List ℕ). xs ++ t) k ∙ sym (append_assoc xs ys cs)

-- The index of the next frame, at most the greatest u64.
saturated : (p p' m n all : ℕ) → p ≡ u64_saturate m → p' ≡ u64_saturate (p + n) → all ≡ m + n → p' ≡ u64_saturate all
saturated p p' m n all e f sum = omega arith

-- Nothing is listed if an allocation fails at once.
pub none_cut : (A : Type 0) (input left out : Option (List ℕ)) (failure : Failure) → failure ≡ Refused Memory → IsCut A input left out out failure
none_cut A input left out failure e =
    let nothing : AreListed {A = A} input input out out [] = record {
      fit = λ k d low. absurd (omega arith);
      read = consumes_same input;
      printed = appends_none out;
    } in
    subst (IsCut A input left out out) (sym e) ([], input, Open, nothing, refl)

-- One more frame is taken, and its line is printed.
pub so_far_more : {A : Type 0} (frame_reader frame_reader' : FrameReader A) (input mid last out printed out' : Option (List ℕ))
    (frame : Frame A) → IsSoFar frame_reader input mid out printed
    → IsNext (left_of frame_reader mid) (left_of frame_reader' last) frame_reader.next_frame_offset frame_reader'.next_frame_offset (Some frame)
    → Appends printed out' (line_of (frame_text frame)) → IsEndRight frame_reader' last
    → IsSoFar frame_reader' input last out out'
so_far_more {A} frame_reader frame_reader' input mid last out printed out' frame so (fits, taken, passed) line ended =
    let encoded : encodings_of so.frames ++ encoding_of frame ≡ encodings_of (so.frames ++ frame ∷ []) = flat_map_more encoding_of [] so.frames frame in
    let lines : listing_of so.frames ++ line_of (frame_text frame) ≡ listing_of (so.frames ++ frame ∷ []) =
    flat_map_more (λ (one : Frame A). line_of (frame_text one)) [] so.frames frame in
    let before = so.position in
    let sizes = sym (ap length encoded) ∙ length-append (encodings_of so.frames) (encoding_of frame) in
    record {
      frames = so.frames ++ frame ∷ [];
      lists = record {
        fit = All-push FrameFits so.frames frame so.lists.fit fits;
        read = subst (Consumes input (left_of frame_reader' last)) encoded (consumes_more input (left_of frame_reader mid)
            (left_of frame_reader' last) (encodings_of so.frames) (encoding_of frame) so.lists.read taken);
        printed = subst (Appends out out') lines (Appends-trans out printed out' (listing_of so.frames) (line_of (frame_text frame)) so.lists.printed line);
      };
      position = saturated _ _ _ _ _ before passed sizes;
      ended = ended;
    }

nil_right : (a b : List ℕ) → a ++ b ≡ [] → b ≡ []
nil_right [] b e = e
nil_right (x ∷ xs) b e = cc

all_consumed : (input mid last : Option (List ℕ)) (bytes encoded : List ℕ) → Consumes input mid encoded
    → Keeps mid (prepend_known bytes last) → IsAtEnd (prepend_known bytes last)
    → Consumes input last encoded × IsAtEnd last
all_consumed None mid None bytes encoded read kept end = (tt, tt)
all_consumed None mid (Some zs) bytes encoded read kept end = (tt, nil_right bytes zs end)
all_consumed (Some xs) None last bytes encoded read kept end = absurd read
all_consumed (Some xs) (Some ys) None bytes encoded read kept end = absurd kept
all_consumed (Some xs) (Some ys) (Some zs) bytes encoded read kept end =
    let none = nil_right bytes zs end in
    (read ∙ ap (λ (t : List ℕ). encoded ++ t) (sym kept ∙ end ∙ sym none), none)

-- If nothing is left, all of the input is listed.
pub so_far_whole : {A : Type 0} (frame_reader frame_reader' : FrameReader A) (input mid last out out' : Option (List ℕ)) → IsSoFar frame_reader input mid out out'
    → IsNext {A = A} (left_of frame_reader mid) (left_of frame_reader' last) frame_reader.next_frame_offset frame_reader'.next_frame_offset None → IsListed A input last out out'
so_far_whole frame_reader frame_reader' input mid last out out' so (kept, end) =
    let whole = all_consumed input (left_of frame_reader mid) last (unread_bytes frame_reader') (encodings_of so.frames) so.lists.read kept end in
    (so.frames, record { fit = so.lists.fit; read = whole.0; printed = so.lists.printed }, whole.1)

-- If there is no next frame, the listing is cut there.
pub so_far_cut : {A : Type 0} (frame_reader : FrameReader A) (input mid left out out' : Option (List ℕ)) (state : InputState) (failure : Failure)
    → IsSoFar frame_reader input mid out out' → IsStop A (left_of frame_reader mid) left frame_reader.next_frame_offset state failure
    → IsCut A input left out out' failure
so_far_cut {A} frame_reader input mid left out out' state (Refused fault) so stop = (so.frames, left_of frame_reader mid, state, so.lists, stop)
so_far_cut {A} frame_reader input mid left out out' state (BadFrame byte) so stop =
    (so.frames, left_of frame_reader mid, state, so.lists, subst (λ (p : ℕ). IsStop A (left_of frame_reader mid) left p state (BadFrame byte)) so.position stop)
so_far_cut {A} frame_reader input mid left out out' state (BadScript line) so stop = absurd stop
so_far_cut {A} frame_reader input mid left out out' state Output so stop = tt

-- ---- a listing that has ended.

-- The lines reached the output as they were written.
moved_cut : (A : Type 0) (input left mid mid' out out' : Option (List ℕ)) (failure : Failure) → failure ≢ Output
    → ((text : List ℕ) → Appends mid mid' text → Appends out out' text) → IsCut A input left mid mid' failure → IsCutListing A input left out out'
moved_cut A input left mid mid' out out' (Refused fault) other moved cut = (
  Refused fault,
  other,
  (cut.0, cut.1, cut.2, record { fit = cut.3.fit; read = cut.3.read; printed = moved (listing_of cut.0) cut.3.printed }, cut.4),
)
moved_cut A input left mid mid' out out' (BadFrame byte) other moved cut = (
  BadFrame byte,
  other,
  (cut.0, cut.1, cut.2, record { fit = cut.3.fit; read = cut.3.read; printed = moved (listing_of cut.0) cut.3.printed }, cut.4),
)
moved_cut A input left mid mid' out out' (BadScript line) other moved cut = absurd cut.4
moved_cut A input left mid mid' out out' Output other moved cut = absurd (other refl)

-- Nothing is reported if the listing is complete or its output failed, or if its lines did not reach the output;
-- otherwise it is cut there.
pub cut_told : {T : Type 0} (A : Type 0) (done : Result T Failure) (input left mid mid' out out' : Option (List ℕ)) (Untold Emptied : Type 0)
    → (done ≡ Err Output → Untold) → (IsOk done → Untold) → Untold ⊎ Emptied → IfErr done (IsCut A input left mid mid')
    → ((text : List ℕ) → Emptied → Appends mid mid' text → Appends out out' text) → Untold ⊎ IsCutListing A input left out out'
cut_told A (Ok x) input left mid mid' out out' Untold Emptied output well stands cut moved = inl (well refl)
cut_told A (Err failure) input left mid mid' out out' Untold Emptied output well (inl untold) cut moved = inl untold
cut_told A (Err Output) input left mid mid' out out' Untold Emptied output well (inr emptied) cut moved = inl (output refl)
cut_told A (Err (Refused fault)) input left mid mid' out out' Untold Emptied output well (inr emptied) cut moved =
    inr (moved_cut A input left mid mid' out out' (Refused fault) (λ e. cc) (λ text written. moved text emptied written) cut)
cut_told A (Err (BadFrame byte)) input left mid mid' out out' Untold Emptied output well (inr emptied) cut moved =
    inr (moved_cut A input left mid mid' out out' (BadFrame byte) (λ e. cc) (λ text written. moved text emptied written) cut)
cut_told A (Err (BadScript line)) input left mid mid' out out' Untold Emptied output well (inr emptied) cut moved =
    inr (moved_cut A input left mid mid' out out' (BadScript line) (λ e. cc) (λ text written. moved text emptied written) cut)
