-- The word at the front of the words that are left.
use Rattle.std.proofs.Common.{◌≡◌, ℕ, ◌-◌, ◌≤◌, List, [], ◌∷◌, length, get_or, take, drop, sym, ◌∙◌, ap, arith}
use Rattle.std.specs.Global.{Vec}
use Rattle.std.proofs.lemmas.List.{take_all}
use Rattle.command_words.specs.Words.{texts}

pub texts-front : (words : List (Vec ℕ)) (first : Vec ℕ) (text : List ℕ) → 1 ≤ length words → first ≡ get_or words 0 first → text ≡ first.items
    → texts words ≡ text ∷ texts (take (length words - 1) (drop 1 words))
texts-front [] first text l e is = absurd (omega arith)
texts-front (w ∷ ws) first text l e is =
    let tail : take (length (w ∷ ws) - 1) ws ≡ ws = take_all (length (w ∷ ws) - 1) ws (omega arith) in
    let same : w.items ≡ text = sym (is ∙ ap (λ (v : Vec ℕ). v.items) e) in
    ap (λ (t : List ℕ). t ∷ texts ws) same ∙ ap (λ (vs : List (Vec ℕ)). text ∷ texts vs) (sym tail)
