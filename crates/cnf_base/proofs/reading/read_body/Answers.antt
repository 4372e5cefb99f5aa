use Rattle.std.proofs.Common.{◌≡◌, ◌+◌, List, ℕ, sym, ap, ◌∙◌, subst, arith, length}
use Rattle.cnf_base.specs.declared.fault.DimacsFault.{DimacsFault}
use Rattle.cnf_base.specs.Dimacs.{placed}
use Rattle.cnf_base.specs.Reading.{Progress, Fails, with_placed, body_of, found_of, at_line, formula_of}
use Rattle.cnf_base.proofs.Placed.{stops, goes_on}
use Rattle.cnf_base.proofs.Runs.{start}
use Rattle.cnf_base.proofs.reading.read_body.Goals as goal

pub returns-in-Err : goal.returns-in-Err
returns-in-Err c =
    let found = c.args.found in
    let n = c.loop-line.number + 1 in
    let last = found.line + length found.body in
    let P : DimacsFault → Type 0 = λ e. Fails e (body_of last (found_of found)) in
    let from_start : Progress → List (List ℕ) → Type 0 = λ p ls. with_placed c.loop-line.draft (placed n c.loop-line.line-iterator) ≡ with_placed p (placed (found.line + 1) ls) in
    let all = subst (λ (p : Progress). from_start p found.body) c.new-draft.ensures
    (subst (λ (ls : List (List ℕ)). from_start c.new-draft.result ls) c.into_iter-line-iterator.ensures.into_iter_gives c.loop-line.invariant.same) in
    subst P (sym c.on_line.ensures)
    (stops c.in-Err.fault n c.in-Some.line.now c.next.new.self c.loop-line.draft (with_placed (start found.counts.vars found.counts.clauses) (placed (found.line + 1) found.body))
    (λ p. at_line last (formula_of p)) c.in-Err.ensures (sym (ap (λ ls. with_placed c.loop-line.draft (placed n ls)) c.in-Some.ensures.steps) ∙ all))

pub loop-line-preserved : goal.loop-line-preserved
loop-line-preserved c =
    let n = c.loop-line.number + 1 in
    let steps = c.in-Some.ensures.steps in
    record {
      can = tt;
      finite = tt;
      count = omega (arith, ap length steps);
      same = goes_on n c.in-Some.line.now c.next.new.self c.loop-line.line-iterator c.loop-line.draft c.take_line.new.self _ c.in_default.ensures steps c.loop-line.invariant.same;
    }
