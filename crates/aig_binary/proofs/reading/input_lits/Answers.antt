use Rattle.std.proofs.Common.{◌≡◌, ◌+◌, ◌*◌, ◌++◌, ◌∷◌, [], sym, ap, ◌∙◌, arith}
use Rattle.std.proofs.lemmas.List.FromFn.{map-range_with_len_more}
use Rattle.aig_binary.proofs.reading.input_lits.Goals as goal

pub loop-place-preserved : goal.loop-place-preserved
loop-place-preserved c =
    let k = c.loop-place.place in
    let here : 1 + k ≡ k + 1 = omega arith in
    c.in_ok-push.ensures.ok ∙ ap (λ x. c.loop-place.lits ++ x ∷ []) c.new-lit.ensures ∙ ap (λ xs. xs ++ 2 * (k + 1) ∷ []) c.loop-place.invariant ∙ sym (map-range_with_len_more (λ x. 2 * x) 1 k (k + 1) here)
