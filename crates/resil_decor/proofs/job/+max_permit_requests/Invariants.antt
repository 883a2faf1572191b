use Rattle.std.proofs.Common.{length}
use Rattle.resil_decor.proofs.job.+max_permit_requests.Given as goal

abbrev pub decreases-max_permit_requests : goal.decreases-max_permit_requests
decreases-max_permit_requests l = length l.layers.now
