-- Searches that go on from one another.
use Rattle.std.proofs.Common.{◌≡◌, ℕ, ◌+◌, ◌*◌, ◌-◌, ◌<◌, ◌≤◌, ℤ, Option, Some, None, List, ◌∙◌, arith}
use Rattle.sat_incremental.specs.declared.search.Search.{Search}
use Rattle.sat_incremental.specs.declared.step.End.{End}
use Rattle.sat_incremental.specs.Searching.{Continues, Extends, StepIs, left}
use Rattle.sat_incremental.proofs.Derivations.{grows-nothing, grows-then}

pub continues_then : (a b c : Search) → Continues a b → Continues b c → Continues a c
continues_then a b c h k = record {
  vars = k.vars ∙ h.vars;
  refuted = k.refuted ∙ h.refuted;
  number = h.number + k.number;
  grows = grows-then a.entries b.entries c.entries h.number k.number h.grows k.grows;
  learned = (let first = h.learned in let second = k.learned in omega arith);
}

pub continues_same : (a b : Search) → b.vars ≡ a.vars → b.refuted ≡ a.refuted → b.entries ≡ a.entries → b.learned ≡ a.learned → Continues a b
continues_same a b vars refuted entries learned = record {
  vars = vars;
  refuted = refuted;
  number = 0;
  grows = grows-nothing a.entries b.entries entries;
  learned = omega (arith, learned);
}

pub extends_then : (a b c : Search) → Extends a b → Extends b c → Extends a c
extends_then a b c h k = record {
  vars = k.vars ∙ h.vars;
  number = h.number + k.number;
  grows = grows-then a.entries b.entries c.entries h.number k.number h.grows k.grows;
}

pub extends_same : (a b : Search) → b.vars ≡ a.vars → b.entries ≡ a.entries → Extends a b
extends_same a b vars entries = record { vars = vars; number = 0; grows = grows-nothing a.entries b.entries entries }

more_left : (k v x y : ℕ) → x ≤ v → k * (v + 1) + x < (k + 1) * (v + 1) + y
more_left k v x y le =
    let product : (k + 1) * (v + 1) ≡ k * (v + 1) + (v + 1) = grind arith in
    rw product (omega arith)

-- with one lemma more of the budget there is less to do, however many variables are unassigned then
pub less_after : (budget old new old_vars new_vars old_count new_count : ℕ) → new ≡ old + 1 → old < budget → new_vars ≡ old_vars → (budget - new) * (new_vars + 1) + (new_vars - new_count) < (budget - old) * (old_vars + 1) + (old_vars - old_count)
less_after budget old new old_vars new_vars old_count new_count one room same =
    let next : budget - old ≡ budget - new + 1 = omega (arith, one, room) in
    rw (same, next) (more_left (budget - new) old_vars (old_vars - new_count) (old_vars - old_count) (omega arith))

-- what ends a step ends it where more was left to do before
pub step_then : (assumptions : List ℤ) (lemmas : ℕ) (old mid new : Search) (end : Option End) → left lemmas mid ≤ left lemmas old → StepIs assumptions lemmas mid new end → StepIs assumptions lemmas old new end
step_then assumptions lemmas old mid new None le h = omega arith
step_then assumptions lemmas old mid new (Some end) le h = h
