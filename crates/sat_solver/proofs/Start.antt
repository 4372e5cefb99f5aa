-- How a search begins, once the formula is loaded.
use Rattle.std.proofs.Common.{◌≡◌, ℕ, ◌<◌, ◌≤◌, ◌^◌, ℤ, Option, List, [], length, take, refl, ap, sym, ◌∙◌, subst, arith}
use Rattle.std.specs.List.{range_with_len, slice_get}
use Rattle.std.proofs.lemmas.List.FromFn.{length-range_with_len}
use Rattle.cnf_base.specs.Meaning.{CnfFormula}
use Rattle.lrat_text.specs.declared.proof.LratStep.{LratStep}
use Rattle.sat_trail.specs.Trail.{TrailState}
use Rattle.sat_watch.specs.Book.{BookState, marks}
use Rattle.sat_watch.specs.Ready.{IsReady}
use Rattle.sat_solver.specs.declared.search.Search.{Search}
use Rattle.sat_solver.specs.Decision.{IsPassed}
use Rattle.sat_solver.specs.Ledger.{earlier, live, IsLedger}
use Rattle.sat_solver.specs.InputClauses.{IsLoaded}
use Rattle.sat_solver.specs.SearchInvariant.{IsSearch}
use Rattle.sat_solver.specs.Sound.{IsSound}
use Rattle.sat_solver.specs.Steps.{IsSearchState}
use Rattle.sat_solver.proofs.SearchPlace.{first_passed}
use Rattle.sat_solver.proofs.Ledgers.{IsLedger-none}
use Rattle.sat_solver.proofs.States.{loaded_whole}

pub begun : (formula : CnfFormula) (done : List (List ℤ)) (s : Search) (vars : ℕ) → length formula.clauses < 2 ^ 60 → vars ≡ formula.vars → s.steps ≡ [] → s.queue ≡ range_with_len 1 vars → s.ranks ≡ vars → s.phases ≡ vars → s.analyzer ≡ vars → s.considered ≡ vars → s.conflicts ≡ 0 → IsSound formula.vars (live formula []) done s.premises.proof_ids.items s.premises.book s.premises.trail → IsSearch formula done s
begun formula done s vars few same none queue ranks phases analyzer considered conflicts sound =
    let L : List LratStep → Type 0 = λ steps. IsLedger formula steps in
    let S : List LratStep → Type 0 = λ steps. IsSound formula.vars (live formula steps) done s.premises.proof_ids.items s.premises.book s.premises.trail in
    let empty : length s.steps ≡ 0 = ap length none in
    record {
      few_clauses = few;
      few_steps = omega arith;
      ledger = subst L (sym none) (IsLedger-none formula);
      sound = subst S (sym none) sound;
      queue_vars = ap length queue ∙ length-range_with_len 1 vars ∙ same;
      ranks_vars = ranks ∙ same;
      phases_vars = phases ∙ same;
      analyzer_vars = analyzer ∙ same;
      considered_vars = considered ∙ same;
      few_conflicts = omega (arith, conflicts);
    }

ready_loaded : (formula : CnfFormula) (count : ℕ) (proof_ids : List ℕ) (b : BookState) (t : TrailState) → IsLoaded formula count proof_ids b t → IsReady b t
ready_loaded formula count proof_ids b t h =
    let P : ℕ → Type 0 = λ n. take n (marks t.assignments) ≡ take n b.seen in
    let root = h.at_root in
    record {
      followed = record { vars = h.sound.trail_vars ∙ sym h.sound.book_vars; agrees = subst P (sym h.low) refl };
      none_false = λ k lt. absurd (omega arith);
      none_unit = λ k lt. absurd (omega arith);
    }

pub first_turn : (formula : CnfFormula) (lemmas : ℕ) (s : Search) (vars : ℕ) → length formula.clauses < 2 ^ 60 → lemmas ≤ 2 ^ 60 → vars ≡ formula.vars → s.steps ≡ [] → s.queue ≡ range_with_len 1 vars → s.ranks ≡ vars → s.from ≡ slice_get s.queue 0 → s.phases ≡ vars → s.analyzer ≡ vars → s.considered ≡ vars → s.conflicts ≡ 0 → IsLoaded formula (length formula.clauses) s.premises.proof_ids.items s.premises.book s.premises.trail → IsSearchState formula lemmas s
first_turn formula lemmas s vars few few_lemmas same none queue ranks from phases analyzer considered conflicts loaded =
    let D : List LratStep → Type 0 = λ steps. IsSearch formula (earlier formula steps) s in
    let P : Option ℕ → Type 0 = λ at. IsPassed s.queue s.premises.trail.assignments at in
    let empty : length s.steps ≡ 0 = ap length none in
    record {
      search = subst D (sym none) (begun formula (earlier formula []) s vars few same none queue ranks phases analyzer considered conflicts (loaded_whole formula s.premises.proof_ids.items s.premises.book s.premises.trail loaded));
      ready = ready_loaded formula (length formula.clauses) s.premises.proof_ids.items s.premises.book s.premises.trail loaded;
      passed = subst P (sym from) (first_passed s.queue s.premises.trail.assignments);
      within = omega arith;
      few = few_lemmas;
    }
