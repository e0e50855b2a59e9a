use Rattle.witness_check.specs.Reader.{setting_of}
use Rattle.witness_check.proofs.Accepting as accepting
use Rattle.witness_laws.specs.Printed.{ops_of_run, printed_witness}
use Rattle.witness_laws.proofs.Printed.{is_accepted, report_ends}
use Rattle.std.proofs.Common.{length}
use Rattle.witness_laws.proofs.laws.printed_witness_is_accepted.Goals as goal

pub returns-clause-report : goal.returns-clause-report
returns-clause-report c = report_ends

pub returns-clause-accepted : goal.returns-clause-accepted
returns-clause-accepted c t i turns tree of_bytes accepted few = is_accepted t i turns tree accepted of_bytes few

pub returns-clause-judged : goal.returns-clause-judged
returns-clause-judged c t i turns tree of_bytes accepted few =
    accepting.is_accepted (setting_of t i) (printed_witness t i turns) (length (ops_of_run t i turns)) (is_accepted t i turns tree accepted of_bytes few)
