use Rattle.ring_session.proofs.TableLaws.{table_answers, table_content, table_effect}
use Rattle.ring_session.proofs.session_laws.table_law.Goals as goal

pub returns : goal.returns
returns g c = record {
  told = table_answers g.O.Object.sequential;
  effect = table_effect g.O.Object.sequential;
  content = table_content g.O.Object.sequential;
}
