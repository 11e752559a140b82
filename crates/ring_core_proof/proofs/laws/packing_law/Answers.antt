use Rattle.ring_payload.proofs.Packing.{length-packed_payloads, longest_call_run-longest, unpacked_payloads-packed_payloads, packed_payloads-fits, packed_payloads-users}
use Rattle.ring_core_proof.proofs.laws.packing_law.Goals as goal

pub returns-clause-longest : goal.returns-clause-longest
returns-clause-longest g c = longest_call_run-longest

pub returns-clause-few : goal.returns-clause-few
returns-clause-few g c = length-packed_payloads

pub returns-clause-unpacked_payloads : goal.returns-clause-unpacked_payloads
returns-clause-unpacked_payloads g c = unpacked_payloads-packed_payloads

pub returns-clause-fits : goal.returns-clause-fits
returns-clause-fits g c = packed_payloads-fits

pub returns-clause-users : goal.returns-clause-users
returns-clause-users g c = packed_payloads-users
