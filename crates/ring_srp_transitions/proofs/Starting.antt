-- A core at its opening in a ring holds nothing, and has visited and raised nothing.
use Rattle.std.proofs.Common.{◌≡◌, ℕ, ◌≤◌, false, List, [], ◌∷◌, None, refl, sym, ap, ◌∙◌, arith}
use Rattle.std.proofs.lemmas.Bool.{true≢false}
use Rattle.ring_base.specs.Processors.{IsMember, everybody}
use Rattle.ring_base.specs.Members.{only_members, everybody_members}
use Rattle.ring_base.specs.declared.state.State.{State}
use Rattle.ring_base.specs.declared.state.State.TheVariants.{Gather, Operational}
use Rattle.ring_payload.specs.declared.content.Payload.{Payload}
use Rattle.ring_wire.specs.declared.message.Message.{Message}
use Rattle.ring_window.specs.Windows.{WindowHistory, window_opening}
use Rattle.ring_token.specs.Histories.{TokenHistory, without_visits}
use Rattle.ring_join.specs.Gatherers.{Gatherer}
use Rattle.ring_join.specs.Gathering.{gathering_opening}
use Rattle.ring_commit.specs.declared.configuration.Configuration.{Configuration}
use Rattle.ring_core_spec.specs.State.{opening_ring, formed_ring_of, opening, formed, is_stopped}
use Rattle.ring_srp_state.specs.Histories.{History, history_of}
use Rattle.ring_srp_transitions.specs.RunningCores.{core_of, IsRunningCore, is_forming}

-- the lists of facts of a core at its opening in this ring
abbrev first_in : {A : Type 0} → Configuration → History A
first_in ring = record { rings = ring ∷ []; installs = ring ∷ []; turns = []; raises = []; reports = []; plans = [] }

-- no ring is being formed at the opening: in Gather its ring has number 0
record Opens (state : State) (ring : Configuration) (me : ℕ) : Type 0 where
  runs : is_stopped state ≡ false
  idle : is_forming state ≡ false
  lowest : state ≡ Gather → ring.ring.seq ≡ 0
  member : IsMember ring.members me

starts_at : {A : Type 0} (total me : ℕ) (state : State) (ring : Configuration) (queue : List (Payload A)) → Opens state ring me →
    IsRunningCore (core_of me total state ring ring (gathering_opening (everybody total)) None queue [] (first_in ring))
    (record { me = me; floor = 0; gathering = gathering_opening (everybody total) }) (window_opening ring.ring) (without_visits me ring.ring) None
starts_at total me state ring queue opens =
    record {
      runs = opens.runs;
      gather_me = refl;
      gather_floor = λ e. sym (opens.lowest e);
      member = opens.member;
      kept = record { window_is = refl; visit_is = refl; reached = omega arith; near = omega arith; led = omega arith };
      below = record { held = tt; turns = tt; raises = tt };
      older = omega arith;
      apart = λ e. absurd (true≢false (sym e ∙ opens.idle));
      same = λ e. refl;
      recovery_state = λ e. absurd (true≢false (sym (ap is_forming e) ∙ opens.idle));
      over = λ e. refl;
    }

starts : {A : Type 0} (total me : ℕ) (state : State) (ring : Configuration) (gather : Gatherer) (window : WindowHistory A) (visit : TokenHistory A)
    (queue : List (Payload A)) (held : List (Message A)) (h : History A) → Opens state ring me →
    gather ≡ record { me = me; floor = 0; gathering = gathering_opening (everybody total) } → window ≡ window_opening ring.ring → visit ≡ without_visits me ring.ring
    → held ≡ [] → h ≡ first_in ring → IsRunningCore (core_of me total state ring ring gather.gathering None queue held h) gather window visit None
starts total me state ring gather window visit queue held h opens a b d e f = rw (a, b, d, e, f) (starts_at total me state ring queue opens)

-- alone, in Gather
pub starts_alone : {A : Type 0} (total me : ℕ) (gather : Gatherer) (window : WindowHistory A) (visit : TokenHistory A) (queue : List (Payload A))
    (held : List (Message A)) (h : History A) → 1 ≤ me →
    gather ≡ record { me = me; floor = 0; gathering = gathering_opening (everybody total) } → window ≡ window_opening (opening_ring me).ring → visit ≡ without_visits me (opening_ring me).ring
    → held ≡ [] → h ≡ history_of (opening total me) →
    IsRunningCore (core_of me total Gather (opening_ring me) (opening_ring me) gather.gathering None queue held h) gather window visit None
starts_alone total me gather window visit queue held h low a b d e f =
    let opens : Opens Gather (opening_ring me) me = record { runs = refl; idle = refl; lowest = λ e. refl; member = (only_members me me low).1 refl } in
    starts total me Gather (opening_ring me) gather window visit queue held h opens a b d e f

-- in the formed ring of all, which runs
pub starts_in_all : {A : Type 0} (total me : ℕ) (gather : Gatherer) (window : WindowHistory A) (visit : TokenHistory A) (queue : List (Payload A))
    (held : List (Message A)) (h : History A) → 1 ≤ me → me ≤ total →
    gather ≡ record { me = me; floor = 0; gathering = gathering_opening (everybody total) } → window ≡ window_opening (formed_ring_of total).ring
    → visit ≡ without_visits me (formed_ring_of total).ring → held ≡ [] → h ≡ history_of (formed total me) →
    IsRunningCore (core_of me total Operational (formed_ring_of total) (formed_ring_of total) gather.gathering None queue held h) gather window visit None
starts_in_all total me gather window visit queue held h low high a b d e f =
    let opens : Opens Operational (formed_ring_of total) me =
    record { runs = refl; idle = refl; lowest = λ e. absurd (let q : Operational ≡ Gather = e in cc); member = (everybody_members total me).1 (low, high) } in
    starts total me Operational (formed_ring_of total) gather window visit queue held h opens a b d e f
