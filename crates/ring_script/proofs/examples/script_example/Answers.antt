use Rattle.std.proofs.Common.{refl}
use Rattle.hex.specs.Hex.{decode_pairs}
use Rattle.ring_script.specs.Numbers.{is, number_of}
use Rattle.ring_script.specs.Operations.{argument_at, arguments_after, form_of, named_at, raw_at, operation_at}
use Rattle.ring_script.specs.Cuts.{member_set, parse_group, groups_of, union_of_groups, are_apart, placed_from, table_after, cut_at}
use Rattle.ring_script.specs.HexWords.{decode_hex_word}
use Rattle.ring_script.specs.Lines.{timeout_kind_of, frame_of, call_at, deliver_at, timeout_at, noise_at, stop_at, cut_line_at, pump_at, form_at, request_in}
use Rattle.ring_script.specs.Votes.{votes_at, votes_of, votes_in}
use Rattle.ring_script.specs.Scripts.{parse_node_words, requests_in, nodes_in, script_by}
use Rattle.ring_script.specs.ShelfVocabulary.{shelf_operation_forms}
use Rattle.ring_script.specs.Words.{pieces, lines_of}
use Rattle.ring_script.proofs.examples.script_example.Goals as goal

pub returns-clause-faults : goal.returns-clause-faults
unfolding votes_at votes_of votes_in is number_of argument_at arguments_after form_of named_at raw_at operation_at member_set parse_group
    groups_of union_of_groups are_apart placed_from table_after cut_at timeout_kind_of frame_of decode_hex_word call_at deliver_at timeout_at
    noise_at stop_at cut_line_at pump_at form_at request_in parse_node_words requests_in nodes_in script_by shelf_operation_forms pieces lines_of
    decode_pairs
returns-clause-faults c = refl

pub returns-clause-schedules : goal.returns-clause-schedules
unfolding votes_at votes_of votes_in is number_of argument_at arguments_after form_of named_at raw_at operation_at member_set parse_group
    groups_of union_of_groups are_apart placed_from table_after cut_at timeout_kind_of frame_of decode_hex_word call_at deliver_at timeout_at
    noise_at stop_at cut_line_at pump_at form_at request_in parse_node_words requests_in nodes_in script_by shelf_operation_forms pieces lines_of
    decode_pairs
returns-clause-schedules c = refl

pub returns-clause-operations : goal.returns-clause-operations
unfolding votes_at votes_of votes_in is number_of argument_at arguments_after form_of named_at raw_at operation_at member_set parse_group
    groups_of union_of_groups are_apart placed_from table_after cut_at timeout_kind_of frame_of decode_hex_word call_at deliver_at timeout_at
    noise_at stop_at cut_line_at pump_at form_at request_in parse_node_words requests_in nodes_in script_by shelf_operation_forms pieces lines_of
    decode_pairs
returns-clause-operations c = refl
