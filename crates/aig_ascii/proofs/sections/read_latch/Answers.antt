use Rattle.std.proofs.Common.{◌≡◌, ℕ, None, [], ◌∷◌, subst}
use Rattle.std.proofs.lemmas.Result.{err_from_is_err_and}
use Rattle.text_words.specs.Text.{fields}
use Rattle.aig_ascii.specs.Fields.{optional, want_demands}
use Rattle.aig_ascii.specs.Sections.{defining, literal, is_reset, number_at}
use Rattle.aig_ascii.specs.Drafts.{definers_of}
use Rattle.aig_ascii.specs.FirstFaults.{first_unmet, Fails}
use Rattle.aig_ascii.proofs.FirstFaults.{says-err}
use Rattle.aig_ascii.proofs.Wants.{second-fails, third-fails}
use Rattle.aig_ascii.proofs.sections.read_latch.Goals as goal
use Rattle.aig_ascii.specs.Kinds.{aag_kind}

pub returns-in_err-next-clause-demands : goal.returns-in_err-next-clause-demands
returns-in_err-next-clause-demands c =
    let p = err_from_is_err_and c.from_residual-in_err-next.result c.from_residual-in_err-next.ensures.1 in
    let e = c.in_err-next.field-0.0 in
    let d = c.args.draft.now in
    let r = c.args.cursor.now in
    let s = c.defining.new.cursor in
    says-err c.from_residual-in_err-next.result p.0 e _ p.1 p.2
    (second-fails aag_kind e r s (defining d.top (definers_of d)) (literal aag_kind d.top) (optional (is_reset aag_kind (number_at r 0) ∷ []) ∷ []) c.in_ok-lit.ensures.demands c.in_ok-lit.ensures.passes
    (subst (λ (n : ℕ). Fails e (first_unmet (want_demands aag_kind s (literal aag_kind n) (fields s)))) c.top.ensures.value c.in_err-next.ensures.demands))

pub returns-in_err-reset-clause-demands : goal.returns-in_err-reset-clause-demands
returns-in_err-reset-clause-demands c =
    let p = err_from_is_err_and c.from_residual-in_err-reset.result c.from_residual-in_err-reset.ensures.1 in
    let e = c.in_err-reset.field-0.0 in
    let d = c.args.draft.now in
    let r = c.args.cursor.now in
    let s = c.defining.new.cursor in
    let t = c.literal.new.cursor in
    says-err c.from_residual-in_err-reset.result p.0 e _ p.1 p.2
    (third-fails aag_kind e r s t (defining d.top (definers_of d)) (literal aag_kind d.top) (optional (is_reset aag_kind (number_at r 0) ∷ [])) [] c.in_ok-lit.ensures.demands c.in_ok-lit.ensures.passes
    (subst (λ (n : ℕ). first_unmet (want_demands aag_kind s (literal aag_kind n) (fields s)) ≡ None) c.top.ensures.value c.in_ok-next.ensures.demands) c.in_ok-next.ensures.passes
    (subst (λ (n : ℕ). Fails e (first_unmet (want_demands aag_kind t (optional (is_reset aag_kind n ∷ [])) (fields t)))) c.in_ok-lit.ensures.value c.in_err-reset.ensures.demands))
