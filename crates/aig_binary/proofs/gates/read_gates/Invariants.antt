use Rattle.std.proofs.Common.{◌≡◌, ◌+◌, ◌-◌, ◌++◌}
use Rattle.aig_binary.specs.Sections.{gates_demands, gates_at, behind_gates}
use Rattle.aig_binary.proofs.Counted.{SameDemands}
use Rattle.aig_binary.proofs.gates.read_gates.Given as goal

abbrev pub invariant-loop-var : goal.invariant-loop-var
invariant-loop-var l = record {
  demands : SameDemands (gates_demands l.var (l.first + l.count - l.var) l.bytes) (gates_demands l.first l.count l.fn.bytes);
  gates : l.gates ++ gates_at l.var (l.first + l.count - l.var) l.bytes ≡ gates_at l.first l.count l.fn.bytes;
  next : behind_gates (l.first + l.count - l.var) l.bytes ≡ behind_gates l.count l.fn.bytes;
}
