use Rattle.std.proofs.Common.{◌≡◌, List, [], ◌∷◌, ◌++◌, ℕ, length, drop, sym, ap, ◌∙◌, subst, append_assoc, arith, length-drop}
use Rattle.std.proofs.lemmas.List.{take_rest}
use Rattle.std.proofs.lemmas.Bool.Decides.{Decides-eqb}
use Rattle.std.proofs.lemmas.Slice.Eq.{starts_is}
use Rattle.text_words.specs.Text.{Rest, PassesField, behind_spaces}
use Rattle.text_words.proofs.Fields.{rest_at, passes-magic, length-behind_spaces}
use Rattle.text_words.proofs.cursor.Cursor.magic.Goals as goal

pub invariant_of-self : goal.invariant_of-self
invariant_of-self c =
    let bs = c.self.inside.rest.now in
    let more = drop (length c.args.magic.now) bs in
    let same : c.behind_spaces-self-inside.result.now ≡ behind_spaces more = c.behind_spaces-self-inside.ensures ∙ ap behind_spaces (take_rest bs (length c.args.magic.now)) in
    omega (arith, ap length same, length-behind_spaces more, length-drop (length c.args.magic.now) bs, c.self.invariant)

pub returns-clause-passes : goal.returns-clause-passes
returns-clause-passes c =
    let bs = c.self.inside.rest.now in
    let size = c.self.inside.size in
    let m = c.args.magic.now in
    let more = drop (length m) bs in
    let letters = c.requires.0 in
    let starts = (starts_is Decides-eqb bs m c.starts_with.result c.starts_with.ensures.value).0 c.if-not-starts_with.false in
    let is : bs ≡ letters ++ 32 ∷ more = starts ∙ ap (λ xs. xs ++ more) c.requires.1.form ∙ append_assoc letters (32 ∷ []) more in
    let same : c.behind_spaces-self-inside.result.now ≡ behind_spaces more = c.behind_spaces-self-inside.ensures ∙ ap behind_spaces (take_rest bs (length m)) in
    subst (λ (r : Rest). PassesField r (rest_at size c.behind_spaces-self-inside.result.now)) c.self.view_is
    (subst (λ (xs : List ℕ). PassesField (rest_at size bs) (rest_at size xs)) (sym same) (passes-magic size bs letters more is c.requires.1.letters c.requires.1.some c.self.invariant))
