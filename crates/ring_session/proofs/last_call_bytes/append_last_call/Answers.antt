-- The old content stays a prefix, whatever is appended.
use Rattle.std.proofs.Common.{◌≡◌, ap, ◌∙◌, take, rules}
use Rattle.ring_session.proofs.Parts.{stays-whole, stays-on}
use Rattle.ring_session.proofs.last_call_bytes.append_last_call.Goals as goal

pub returns-in_err-append_number-clause-front : goal.returns-in_err-append_number-clause-front
returns-in_err-append_number-clause-front g c =
    let old = c.args.out.now in
    let first = stays-whole old.items old.len old.ok.0 in
    let same : c.append_number.new.out.items ≡ old.items = search rules in
    ap (take old.len) same ∙ first

pub returns-in_err-append_number-2-clause-front : goal.returns-in_err-append_number-2-clause-front
returns-in_err-append_number-2-clause-front g c =
    let old = c.args.out.now in
    let first = stays-whole old.items old.len old.ok.0 in
    let second = stays-on old.items old.items c.append_number.new.out.items _ old.len old.ok.0 first c.in_ok-append_number.ensures.ok in
    let same : c.append_number-2.new.out.items ≡ c.append_number.new.out.items = search rules in
    ap (take old.len) same ∙ second

pub returns-in_err-extend_from_slice-clause-front : goal.returns-in_err-extend_from_slice-clause-front
returns-in_err-extend_from_slice-clause-front g c =
    let old = c.args.out.now in
    let first = stays-whole old.items old.len old.ok.0 in
    let second = stays-on old.items old.items c.append_number.new.out.items _ old.len old.ok.0 first c.in_ok-append_number.ensures.ok in
    let third = stays-on old.items c.append_number.new.out.items c.append_number-2.new.out.items _ old.len old.ok.0 second c.in_ok-append_number-2.ensures.ok in
    let same : c.extend_from_slice.new.self.items ≡ c.append_number-2.new.out.items = search rules in
    ap (take old.len) same ∙ third

pub returns-in_err-push-clause-front : goal.returns-in_err-push-clause-front
returns-in_err-push-clause-front g c =
    let old = c.args.out.now in
    let first = stays-whole old.items old.len old.ok.0 in
    let second = stays-on old.items old.items c.append_number.new.out.items _ old.len old.ok.0 first c.in_ok-append_number.ensures.ok in
    let third = stays-on old.items c.append_number.new.out.items c.append_number-2.new.out.items _ old.len old.ok.0 second c.in_ok-append_number-2.ensures.ok in
    let fourth = stays-on old.items c.append_number-2.new.out.items c.extend_from_slice.new.self.items _ old.len old.ok.0 third c.in_ok-extend_from_slice.ensures.items in
    let same : c.push.new.self.items ≡ c.extend_from_slice.new.self.items = search rules in
    ap (take old.len) same ∙ fourth

pub returns-in_err-extend_from_slice-2-clause-front : goal.returns-in_err-extend_from_slice-2-clause-front
returns-in_err-extend_from_slice-2-clause-front g c =
    let old = c.args.out.now in
    let first = stays-whole old.items old.len old.ok.0 in
    let second = stays-on old.items old.items c.append_number.new.out.items _ old.len old.ok.0 first c.in_ok-append_number.ensures.ok in
    let third = stays-on old.items c.append_number.new.out.items c.append_number-2.new.out.items _ old.len old.ok.0 second c.in_ok-append_number-2.ensures.ok in
    let fourth = stays-on old.items c.append_number-2.new.out.items c.extend_from_slice.new.self.items _ old.len old.ok.0 third c.in_ok-extend_from_slice.ensures.items in
    let fifth = stays-on old.items c.extend_from_slice.new.self.items c.push.new.self.items _ old.len old.ok.0 fourth c.in_ok-push.ensures.items in
    let same : c.extend_from_slice-2.new.self.items ≡ c.push.new.self.items = search rules in
    ap (take old.len) same ∙ fifth

pub returns-clause-front : goal.returns-clause-front
returns-clause-front g c =
    let old = c.args.out.now in
    let first = stays-whole old.items old.len old.ok.0 in
    let second = stays-on old.items old.items c.append_number.new.out.items _ old.len old.ok.0 first c.in_ok-append_number.ensures.ok in
    let third = stays-on old.items c.append_number.new.out.items c.append_number-2.new.out.items _ old.len old.ok.0 second c.in_ok-append_number-2.ensures.ok in
    let fourth = stays-on old.items c.append_number-2.new.out.items c.extend_from_slice.new.self.items _ old.len old.ok.0 third c.in_ok-extend_from_slice.ensures.items in
    let fifth = stays-on old.items c.extend_from_slice.new.self.items c.push.new.self.items _ old.len old.ok.0 fourth c.in_ok-push.ensures.items in
    let sixth = stays-on old.items c.push.new.self.items c.extend_from_slice-2.new.self.items _ old.len old.ok.0 fifth c.in_ok-extend_from_slice-2.ensures.items in
    sixth
