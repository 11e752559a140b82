-- The token is sent with one hop more and the core's own entry, which it lacked.
use Rattle.std.proofs.Common.{◌<◌, length, sym, subst}
use Rattle.ring_wire.specs.declared.commit.CommitToken.{CommitToken}
use Rattle.ring_join.specs.Gathering.{candidates}
use Rattle.ring_commit.proofs.Hopping.{first_round_room}
use Rattle.ring_core_spec.specs.State.{floor}
use Rattle.ring_core_spec.specs.Views.{own_entry}
use Rattle.ring_srp_transitions.proofs.Receivers.{hop_room, filled_on, first_some, first_newer, receiver_member}
use Rattle.ring_srp_transitions.proofs.running_core.RunningCore.fill.Goals as goal

pub advance_hop-requires : goal.advance_hop-requires
advance_hop-requires g c = hop_room c.args.boxed c.requires.fits

pub append_entry-requires : goal.append_entry-requires
append_entry-requires g c =
    let now = c.args.self.now in
    let room = first_round_room (floor now) (candidates now.gathering) c.args.boxed c.requires.passes c.requires.fits.count in
    subst (λ (k : CommitToken). length k.entries < 16) (sym c.advance_hop.ensures) room

pub join_ring-requires : goal.join_ring-requires
join_ring-requires g c =
    let now = c.args.self.now in
    let k = c.args.boxed in
    let some = first_some (floor now) (candidates now.gathering) k c.requires.passes in
    rw (filled_on k c.advance_hop.new.self c.append_entry.new.self (own_entry now) c.own_entry.result c.advance_hop.ensures c.append_entry.ensures c.own_entry.ensures)
    (record {
      state = c.requires.state;
      newer = first_newer (floor now) (candidates now.gathering) k c.requires.passes;
      member = receiver_member now.me k some c.requires.here;
      some = some;
    })

pub returns : goal.returns
returns g c =
    let now = c.args.self.now in
    let on = filled_on c.args.boxed c.advance_hop.new.self c.append_entry.new.self (own_entry now) c.own_entry.result c.advance_hop.ensures c.append_entry.ensures
    c.own_entry.ensures in
    record { core = rw on at c.join_ring.ensures.core; sends = rw on at c.join_ring.ensures.sends; refused = c.join_ring.ensures.refused }
