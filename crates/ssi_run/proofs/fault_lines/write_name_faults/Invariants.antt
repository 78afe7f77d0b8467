use Rattle.std.proofs.Common.{drop}
use Rattle.ssi_run.specs.FaultLines.{name_fault_lines}
use Rattle.ssi_script.proofs.Rest.{IsLeft}
use Rattle.ssi_run.proofs.fault_lines.write_name_faults.Given as goal

abbrev pub invariant-loop-fault : goal.invariant-loop-fault
invariant-loop-fault g l =
    IsLeft (g.K.Sink.written l.fn.sink) (g.K.Sink.written l.sink) (g.K.Sink.faults l.fn.sink) (g.K.Sink.faults l.sink)
    (name_fault_lines l.text l.faults) (name_fault_lines l.text (drop l.fault-index l.faults))
