use Rattle.std.proofs.Common.{◌≡◌, ◌≢◌, ◌≤◌, ◌^◌, pos, ℤ, nat_abs, Some, Ok, Result, List, [], ◌∷◌, ◌++◌, sym, ap, ◌∙◌, subst, arith}
use Rattle.std.proofs.lemmas.Int.{ints, to_z-of_z}
use Rattle.text_words.specs.Numbers.{integer_of}
use Rattle.cnf_base.specs.Reading.{Progress, with_number, extended}
use Rattle.cnf_base.specs.declared.fault.DimacsKind.{DimacsKind}
use Rattle.cnf_base.proofs.Numbers.{some_from_if_below, with_number-zero, with_number-literal}
use Rattle.cnf_base.proofs.draft.Draft.take_word.Goals as goal

pub returns-then-number-eq0 : goal.returns-then-number-eq0
returns-then-number-eq0 c =
    let is : integer_of c.args.word.now ≡ Some c.in-Some.number = some_from_if_below (2 ^ 63) _ _ (sym c.in-Some.ensures) in
    let zero : c.in-Some.number ≡ pos 0 = grind (arith, ints) in
    rw (ap (with_number c.args.self.now) is ∙ with_number-zero c.args.self.now c.in-Some.number zero) c.end_clause.ensures

pub returns : goal.returns
returns c =
    let is : integer_of c.args.word.now ≡ Some c.in-Some.number = some_from_if_below (2 ^ 63) _ _ (sym c.in-Some.ensures) in
    let some : c.in-Some.number ≢ pos 0 = λ e. grind (arith, ints) in
    let few : nat_abs c.in-Some.number ≤ c.args.self.now.vars = grind (arith, ints, to_z-of_z) in
    let inside = c.self.inside in
    let number = c.in-Some.number in
    let same : c.new.result ≡ number = grind (arith, ints, to_z-of_z) in
    let with_begun : List ℤ → Result Progress DimacsKind = λ b. Ok (record { vars = inside.formula.vars; limit = inside.limit; clauses = inside.formula.clauses; begun = b }) in
    let pushed : with_begun (inside.begun.items ++ number ∷ []) ≡ with_begun c.push.new.self.items =
    ap with_begun (ap (λ z. inside.begun.items ++ z ∷ []) (sym same) ∙ sym c.in_ok-push.ensures.items) in
    let P : Progress → Type 0 = λ p. Ok (extended p number) ≡ with_begun c.push.new.self.items in
    ap (with_number c.args.self.now) is ∙ with_number-literal c.args.self.now number some few ∙ subst P c.self.view_is pushed
