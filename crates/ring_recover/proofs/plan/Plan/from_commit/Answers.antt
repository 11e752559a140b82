-- The fields are those that the reports give.
use Rattle.std.proofs.Common.{◌≡◌, ◌+◌, true, List, map, refl, sym, ap, ◌∙◌, arith}
use Rattle.std.specs.List.{list_any}
use Rattle.ring_base.specs.Processors.{elements}
use Rattle.ring_commit.specs.Tokens.{CommitEntry}
use Rattle.ring_commit.specs.Reports.{reports_of, safe_of, none_behind}
use Rattle.ring_recover.specs.Plans.{least, transitional_members_among, is_reported}
use Rattle.ring_recover.proofs.Planning.{safe_low}
use Rattle.ring_recover.proofs.plan.Plan.from_commit.Goals as goal

pub invariant_of-result : goal.invariant_of-result
invariant_of-result g c =
    let old = c.in_ok-old.old in
    let rs = c.as_slice-reports.result.now in
    let reports : rs ≡ reports_of old c.args.token.now.entries = c.as_slice-reports.ensures.value ∙ c.reports_of-reports.ensures
    ∙ ap (reports_of old) c.as_slice-entries.ensures.value in
    let none : none_behind (safe_of rs) rs ≡ true = ap (λ n. none_behind n rs) (sym c.greatest_mark-safe.ensures) ∙ sym c.all_fronts_reach.ensures
    ∙ c.if-not-all_fronts_reach.false in
    rw (c.ghost_of-plan.ensures, c.nothing_seen.ensures) record {
      old_is = refl;
      transitional_members_is = c.transitional_members_among.ensures
          ∙ ap (λ (es : List CommitEntry). transitional_members_among old (elements c.args.token.now.members) es) c.as_slice-entries.ensures.value;
      least_is = c.least_mark.ensures ∙ ap (λ (es : List CommitEntry). least (map (λ (e : CommitEntry). e.mark) es)) reports;
      safe_is = c.greatest_mark-safe.ensures ∙ ap safe_of reports;
      low_is = c.least_front.ensures ∙ ap (λ (es : List CommitEntry). least (map (λ (e : CommitEntry). e.front) es)) reports;
      sound = omega (arith, c.greatest_mark-safe.ensures, c.least_front.ensures, safe_low rs none);
      known_is = λ j l. c.reported_offsets_after.ensures j l ∙ ap (list_any (is_reported (c.greatest_mark-safe.result + 1 + j))) reports;
      wrapped_is = λ j l. c.new.ensures j;
      ended_is = refl;
    }
