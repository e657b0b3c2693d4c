-- `model_fault` meets its contract: it is the scan for 1s and 2s.
use Rattle.gate.specs.Scan.{model_fault}
use Rattle.gate.proofs.scan.model_fault.Goals as goal

pub returns : goal.returns
unfolding model_fault
returns c = cc
