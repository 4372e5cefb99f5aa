-- Goals with an entry are settled, and where one is open the count of open goals isn't 0.
use Rattle.std.proofs.Common.{◌≡◌, ℕ, zero, suc, ◌<◌, ◌^◌, Bool, true, false, cond, List, [], ◌∷◌, length, refl, sym, ap, ◌∙◌, arith, All, Option, Some, None, inl, inr, option_map}
use Rattle.std.specs.Prelude.{slice_get, count_by, IsSome}
use Rattle.std.proofs.lemmas.List.Elements.{All-weaker}
use Rattle.std.proofs.lemmas.List.Sums.{sum_by-cons}
use Rattle.std.proofs.lemmas.Option.{none-some, same_Some, slice_get-get_or, slice_get_cases}
use Rattle.aig_model.specs.declared.parts.Kind.{Kind}
use Rattle.aig_model.specs.declared.parts.Parts.{Parts}
use Rattle.board_core.specs.declared.entry.Entry.{Entry}
use Rattle.board_core.specs.History.{first_entry, verdict_of}
use Rattle.board_core.proofs.FirstFaults.{verdict_found}
use Rattle.report_text.specs.declared.report.GoalBlock.{GoalBlock}
use Rattle.report_text.specs.declared.report.GoalBlock.TheVariants as blocks
use Rattle.report_text.specs.declared.report.Report.{Report}
use Rattle.run_report.specs.Report.{IsBlock, Tells}
use Rattle.run_report.specs.Scope.{Scope}
use Rattle.report_check.specs.Blocks.{is_open, IsSettled, HasOpen}

-- ---- goals with an entry
kind_of_some : (first : Option Entry) → IsSome first → (kind : Kind) × (option_map (λ (e : Entry). e.kind) first ≡ Some kind)
kind_of_some None some = absurd cc
kind_of_some (Some e) some = (e.kind, refl)

below_goals : (c : Parts) (sig : List ℕ) (scope : Scope) (r : Report) (goal : ℕ) (kind : Kind) → Tells c sig r.options scope r → verdict_of r.history goal ≡ Some kind → goal < length r.goals
below_goals c sig scope r goal kind tells is =
    let found = verdict_found r.history goal kind is in
    let e : Entry = found.0 in
    let at : slice_get r.history found.1.0 ≡ Some e = slice_get-get_or r.history found.1.0 e found.1.1 ∙ ap (λ (x : Entry). Some x) found.1.2 in
    omega (arith, (tells.legal.entries found.1.0 e at).goal, found.2, tells.each_goal)

not_open : (c : Parts) (sig : List ℕ) (scope : Scope) (r : Report) (goal : ℕ) (kind : Kind) (b : GoalBlock) → verdict_of r.history goal ≡ Some kind → IsBlock c sig scope r goal b → is_open b ≡ false
not_open c sig scope r goal kind (blocks.Reached n witness) is h = refl
not_open c sig scope r goal kind (blocks.Unreachable n inv proof) is h = refl
not_open c sig scope r goal kind (blocks.Open depth hops strength) is h = absurd (none-some kind (sym h.pending ∙ is))

is_settled : (c : Parts) (sig : List ℕ) (scope : Scope) (r : Report) (goal : ℕ) → Tells c sig r.options scope r → IsSome (first_entry r.history goal) → IsSettled r goal
is_settled c sig scope r goal tells some =
    let kind : Kind = (kind_of_some (first_entry r.history goal) some).0 in
    let is : verdict_of r.history goal ≡ Some kind = (kind_of_some (first_entry r.history goal) some).1 in
    let inside : goal < length r.goals = below_goals c sig scope r goal kind tells is in
    elim (slice_get_cases r.goals goal).1 [
      | inl (b, within, at, same) ↦ record { block = b; at = at; settled = not_open c sig scope r goal kind b is (tells.goals goal b at) }
      | inr (past, none) ↦ absurd (omega (arith, past, inside))
    ]

pub are_settled : (c : Parts) (sig : List ℕ) (scope : Scope) (r : Report) (goals : List ℕ) → Tells c sig r.options scope r → All (λ goal. IsSome (first_entry r.history goal)) goals → All (IsSettled r) goals
are_settled c sig scope r goals tells some =
    All-weaker (λ goal. IsSome (first_entry r.history goal)) (IsSettled r) (λ goal h. is_settled c sig scope r goal tells h) goals some

-- ---- open goals
one_if : (t : Bool) → t ≡ true → ◌≡◌ {A = ℕ} (cond t 1 0) 1
one_if true is = refl
one_if false is = absurd cc

some_counted : {X : Type 0} (p : X → Bool) (xs : List X) (k : ℕ) (x : X) → slice_get xs k ≡ Some x → p x ≡ true → 0 < count_by p xs
some_counted p [] k x at is = absurd (none-some x at)
some_counted p (y ∷ xs) zero x at is =
    let here : p y ≡ true = ap p (same_Some y x at) ∙ is in
    omega (arith, sum_by-cons (λ z. cond (p z) 1 0) y xs, one_if (p y) here)
some_counted p (y ∷ xs) (suc k) x at is = omega (arith, sum_by-cons (λ z. cond (p z) 1 0) y xs, some_counted p xs k x at is)

pub some_unsettled : (c : Parts) (sig : List ℕ) (scope : Scope) (r : Report) → Tells c sig r.options scope r → HasOpen r → 0 < r.unsettled
some_unsettled c sig scope r tells left = omega (arith, some_counted is_open r.goals left.goal left.block left.at left.is_left, tells.unsettled)
