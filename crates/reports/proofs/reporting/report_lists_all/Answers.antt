use Rattle.reports.proofs.Listing.{lists_all}
use Rattle.reports.proofs.reporting.report_lists_all.Goals as goal

pub returns : goal.returns
returns c = lists_all
