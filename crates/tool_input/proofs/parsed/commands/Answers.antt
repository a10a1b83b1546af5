use Rattle.index_tool.proofs.IndexFacts.{all_terms}
use Rattle.interval_tool.proofs.IntervalFacts.{all_ordered}
use Rattle.map_records.proofs.MapFacts.{all_lawful}
use Rattle.seq_tool.proofs.SeqFacts.{all_on_lists}
use Rattle.script.specs.Records.{records_of}
use Rattle.tool_input.proofs.parsed.commands.Goals as goal

pub returns-in_ok-read_all-in-Map-clause-lawful : goal.returns-in_ok-read_all-in-Map-clause-lawful
returns-in_ok-read_all-in-Map-clause-lawful c = rw c.in_ok-read_all-in-Map.ensures at (all_lawful 1 (records_of c.args.bytes.now))

pub returns-in_ok-read_all-in-Interval-clause-lawful : goal.returns-in_ok-read_all-in-Interval-clause-lawful
returns-in_ok-read_all-in-Interval-clause-lawful c = rw c.in_ok-read_all-in-Interval.ensures at (all_ordered 1 (records_of c.args.bytes.now))

pub returns-in_ok-read_all-in-Index-clause-lawful : goal.returns-in_ok-read_all-in-Index-clause-lawful
returns-in_ok-read_all-in-Index-clause-lawful c = rw c.in_ok-read_all-in-Index.ensures at (all_terms 1 (records_of c.args.bytes.now))

pub returns-in_ok-read_all-in-Seq-clause-lawful : goal.returns-in_ok-read_all-in-Seq-clause-lawful
returns-in_ok-read_all-in-Seq-clause-lawful c = rw c.in_ok-read_all-in-Seq.ensures at (all_on_lists 1 (records_of c.args.bytes.now))
