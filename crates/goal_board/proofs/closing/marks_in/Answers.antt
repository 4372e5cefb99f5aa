use Rattle.std.proofs.Common.{arith, ◌≡◌, ℕ, zero, suc, ◌+◌, List, [], ◌∷◌, length, get_or, Option, None, ap, sym, ◌∙◌}
use Rattle.std.proofs.lemmas.List.{length_push, get_or_push, get_or_append_left}
use Rattle.std.specs.Slots.{slots_items}
use mathlib.Core.Logic.{dite}
use mathlib.Core.Option.{some, some-injective, some-ne-none}
use native.Mathlib.Decide.{ℕ_discrete}
use lib.ListN.{get_elem?}
use Rattle.board_core.specs.Core.{word_of}
use Rattle.goal_board.specs.Ends.{number_of}
use Rattle.goal_board.proofs.closing.marks_in.Goals as goal

word_read : (ws : List ℕ) (i w : ℕ) → get_elem? ws i ≡ some w → get_or ws i 0 ≡ w
word_read [] i w e = absurd (some-ne-none w (sym e))
word_read (x ∷ ws) zero w e = some-injective x w e
word_read (x ∷ ws) (suc i) w e = word_read ws i w e

pub loop-goal-preserved : goal.loop-goal-preserved
loop-goal-preserved c =
    let i = c.loop-goal.invariant in
    let at : ℕ = c.loop-goal.goal in
    let old : List (Option ℕ) = c.loop-goal.marks.items in
    let new : Option ℕ = c.number_of.result in
    let items = c.push_reserved.ensures.items in
    record {
      long = omega (arith, i.long, ap length items, length_push old new);
      room = omega (arith, i.room, c.push_reserved.ensures.capacity);
      marks = λ k mark lt e. dite (ℕ_discrete k at)
          (λ same.
          let word : c.word.result ≡ word_of mark = sym (word_read (slots_items c.args.closed.now.words) (at + 1) c.word.result c.word.ensures) ∙ ap (λ (n : ℕ). get_or (slots_items c.args.closed.now.words) (n + 1) 0) (sym same) ∙ e in
          ap (λ (l : List (Option ℕ)). get_or l k None) items ∙ get_or_push old new None k (i.long ∙ sym same) ∙ c.number_of.ensures ∙ ap number_of (c.mark_in-found.ensures.mark mark word))
          (λ ne. ap (λ (l : List (Option ℕ)). get_or l k None) items ∙ get_or_append_left old (new ∷ []) None k (omega (arith, lt, ne, i.long)) ∙ i.marks k mark (omega (arith, lt, ne)) e);
    }
