-- The bounds of open goals: those of a run with a prover are those that a report is checked for.
use Rattle.std.proofs.Common.{◌≡◌, ℕ, Bool, true, false, List, [], ◌∷◌, refl, ap, ◌∙◌, Option, Some, None, nat_eq}
use Rattle.std.specs.Prelude.{if◌then◌else◌, ◌||◌}
use Rattle.std.specs.List.{cons_option, list_any}
use Rattle.aig_model.specs.declared.parts.Parts.{Parts}
use Rattle.report_text.specs.declared.report.BlockName.{BlockName}
use Rattle.report_text.specs.declared.report.BlockName.TheVariants.{Sweep, Hop, Kept, Excludes}
use Rattle.report_text.specs.declared.report.Block.{Block}
use Rattle.report_text.specs.declared.report.Report.{Report}
use Rattle.run_report.specs.Bounds.{bounds_of, first_of, first_step, proof_step, steps_of, unless_spent, asked_strength}
use Rattle.run_report.specs.Scope.{Scope}
use Rattle.report_check.specs.Bounds.{is_kept_query, excludes_goal, depth_of, hops_of, strength_of}

-- what is asked for, unless a query of the goal's own or a clause's is spent
abbrev unless : Bool → Bool → Option ℕ → Option ℕ
unless own kept asked = if own then None else if kept then None else asked

unless_kept : (own : Bool) (asked : Option ℕ) → None ≡ unless own true asked
unless_kept true asked = refl
unless_kept false asked = refl

unless_own : (test own kept : Bool) (asked : Option ℕ) (rest : List ℕ) → unless_spent asked (first_of rest) ≡ unless own kept asked
    → unless_spent asked (first_of (cons_option (if test then Some 0 else None) rest)) ≡ unless (test || own) kept asked
unless_own true own kept asked rest h = refl
unless_own false own kept asked rest h = h

one_more : (goal : ℕ) (name : BlockName) (own kept : Bool) (asked : Option ℕ) (rest : List ℕ) → unless_spent asked (first_of rest) ≡ unless own kept asked
    → unless_spent asked (first_of (cons_option (proof_step goal name) rest)) ≡ unless (excludes_goal goal name || own) (is_kept_query name || kept) asked
one_more goal (Sweep t) own kept asked rest h = h
one_more goal (Hop b t) own kept asked rest h = h
one_more goal (Kept i clauses) own kept asked rest h = unless_kept own asked
one_more goal (Excludes g clauses) own kept asked rest h = unless_own (nat_eq g goal) own kept asked rest h

strength_is : (goal : ℕ) (asked : Option ℕ) (spents : List Block)
    → unless_spent asked (first_step (proof_step goal) spents)
    ≡ unless (list_any (λ (b : Block). excludes_goal goal b.name) spents) (list_any (λ (b : Block). is_kept_query b.name) spents) asked
strength_is goal asked [] = refl
strength_is goal asked (b ∷ spents) =
    one_more goal b.name (list_any (λ (a : Block). excludes_goal goal a.name) spents) (list_any (λ (a : Block). is_kept_query a.name) spents) asked (steps_of (proof_step goal) spents)
    (strength_is goal asked spents)

pub same_strength : (scope : Scope) (r : Report) (goal : ℕ) → scope.proves ≡ true → (bounds_of scope r goal).strength ≡ strength_of r goal
same_strength scope r goal proves =
    ap (λ (asks : Bool). unless_spent (if asks then Some r.options.strength else None) (first_step (proof_step goal) r.spents)) proves
    ∙ strength_is goal (Some r.options.strength) r.spents

pub same_depth : (scope : Scope) (r : Report) (goal : ℕ) → (bounds_of scope r goal).depth ≡ depth_of r
same_depth scope r goal = refl

pub same_hops : (scope : Scope) (r : Report) (goal : ℕ) → (bounds_of scope r goal).hops ≡ hops_of r
same_hops scope r goal = refl
