use Rattle.std.proofs.Common.{◌≡◌, ℕ, None, List, [], ◌∷◌, ◌++◌, map, take, drop, get_or, sym, ap, ◌∙◌, subst, append_assoc}
use Rattle.std.proofs.lemmas.Result.{err_from_is_err_and}
use Rattle.text_words.specs.Text.{fields, number}
use Rattle.aig_ascii.specs.Fields.{want_demands}
use Rattle.aig_ascii.specs.Sections.{in_range, defining, literal}
use Rattle.aig_ascii.specs.Drafts.{Draft, definers_of, use_of, StandFor}
use Rattle.aig_ascii.specs.FirstFaults.{first_unmet, Fails}
use Rattle.aig_ascii.proofs.FirstFaults.{says-err}
use Rattle.aig_ascii.proofs.Uses.{stand-append}
use Rattle.aig_ascii.proofs.Wants.{second-fails, third-fails, field-there, two-fields}
use Rattle.aig_ascii.specs.declared.draft.Use.{Use}
use Rattle.aig_ascii.proofs.sections.read_gate.Goals as goal
use Rattle.aig_ascii.specs.Kinds.{aag_kind}

pub returns-in_err-left-clause-demands : goal.returns-in_err-left-clause-demands
returns-in_err-left-clause-demands c =
    let p = err_from_is_err_and c.from_residual-in_err-left.result c.from_residual-in_err-left.ensures.1 in
    let e = c.in_err-left.field-0.0 in
    let d = c.args.draft.now in
    let r = c.args.cursor.now in
    let s = c.defining.new.cursor in
    says-err c.from_residual-in_err-left.result p.0 e _ p.1 p.2
    (second-fails aag_kind e r s (defining d.top (definers_of d)) (literal aag_kind d.top) (literal aag_kind d.top ∷ []) c.in_ok-lhs.ensures.demands c.in_ok-lhs.ensures.passes
    (subst (λ (n : ℕ). Fails e (first_unmet (want_demands aag_kind s (literal aag_kind n) (fields s)))) c.top.ensures.value c.in_err-left.ensures.demands))

pub returns-in_err-right-clause-demands : goal.returns-in_err-right-clause-demands
returns-in_err-right-clause-demands c =
    let p = err_from_is_err_and c.from_residual-in_err-right.result c.from_residual-in_err-right.ensures.1 in
    let e = c.in_err-right.field-0.0 in
    let d = c.args.draft.now in
    let r = c.args.cursor.now in
    let s = c.defining.new.cursor in
    let t = c.literal.new.cursor in
    says-err c.from_residual-in_err-right.result p.0 e _ p.1 p.2
    (third-fails aag_kind e r s t (defining d.top (definers_of d)) (literal aag_kind d.top) (literal aag_kind d.top) [] c.in_ok-lhs.ensures.demands c.in_ok-lhs.ensures.passes
    (subst (λ (n : ℕ). first_unmet (want_demands aag_kind s (literal aag_kind n) (fields s)) ≡ None) c.top.ensures.value c.in_ok-left.ensures.demands) c.in_ok-left.ensures.passes
    (subst (λ (n : ℕ). Fails e (first_unmet (want_demands aag_kind t (literal aag_kind n) (fields t)))) c.top-2.ensures.value c.in_err-right.ensures.demands))

pub returns-clause-uses : goal.returns-clause-uses
returns-clause-uses c =
    let d = c.args.draft.now in
    let r = c.args.cursor.now in
    let s = c.defining.new.cursor in
    let t = c.literal.new.cursor in
    let lits = definers_of d in
    let first = field-there aag_kind s (in_range aag_kind c.top.result ∷ []) c.in_ok-left.ensures.demands in
    let second = field-there aag_kind t (in_range aag_kind c.top-2.result ∷ []) c.in_ok-right.ensures.demands in
    let left : Use = record { at = c.at-left_at.result; lit = c.in_ok-left.left } in
    let right : Use = record { at = c.at-right_at.result; lit = c.in_ok-right.right } in
    let is_left : left ≡ use_of s = ap (λ (n : ℕ). record { at = n; lit = c.in_ok-left.left }) c.at-left_at.ensures
    ∙ ap (λ (n : ℕ). record { at = s.at; lit = n }) (c.in_ok-left.ensures.value ∙ ap (λ fs. get_or (map number fs) 0 0) first) in
    let is_right : right ≡ use_of t = ap (λ (n : ℕ). record { at = n; lit = c.in_ok-right.right }) c.at-right_at.ensures
    ∙ ap (λ (n : ℕ). record { at = t.at; lit = n }) (c.in_ok-right.ensures.value ∙ ap (λ fs. get_or (map number fs) 0 0) second) in
    let uses : left ∷ right ∷ [] ≡ map use_of (take 2 (drop 1 (fields r))) = ap (λ u. u ∷ right ∷ []) is_left ∙ ap (λ u. use_of s ∷ u ∷ []) is_right
    ∙ sym (ap (map use_of) (two-fields r s t c.in_ok-lhs.ensures.passes c.in_ok-left.ensures.passes first second)) in
    let same : definers_of c.note_use.new.self ≡ lits = ap definers_of c.in_ok-note_use.ensures.same in
    let noted = subst (λ (ls : List ℕ). StandFor ls c.note_use-2.new.self.pending (c.note_use.new.self.pending ++ right ∷ [])) same c.in_ok-note_use-2.ensures.uses in
    let both = stand-append lits (d.pending ++ left ∷ []) c.note_use.new.self.pending c.note_use-2.new.self.pending (right ∷ []) c.in_ok-note_use.ensures.uses noted in
    let kept : c.add_gate.new.self.pending ≡ c.note_use-2.new.self.pending = ap (λ (x : Draft). x.pending) c.in_ok-add_gate.ensures in
    subst (λ (us : List Use). StandFor lits us (d.pending ++ map use_of (take 2 (drop 1 (fields r))))) (sym kept)
    (subst (λ (us : List Use). StandFor lits c.note_use-2.new.self.pending us) (append_assoc d.pending (left ∷ []) (right ∷ []) ∙ ap (λ us. d.pending ++ us) uses) both)
