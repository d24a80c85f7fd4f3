use Rattle.std.proofs.Common.{rules}
use Rattle.reports.proofs.reporting.report.Goals as goal

pub returns : goal.returns
returns c = rw c.in-Some.is (search rules)
