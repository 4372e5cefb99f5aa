use Rattle.std.proofs.Common.{◌≡◌, ℕ, ◌+◌, List, ◌∷◌, ◌++◌, [], length, ap, ◌∙◌, All, Some, arith}
use Rattle.std.proofs.lemmas.List.{length_push}
use Rattle.std.proofs.lemmas.List.Elements.{All-pop}
use Rattle.goal_board.specs.Passes.{PassState, IsPassOf}
use Rattle.board_rows.proofs.Posted.{two_posted}
use Rattle.board_rows.proofs.turn_rows.post_both.Goals as goal

pub post_in_turn-held-requires-clause-first : goal.post_in_turn-held-requires-clause-first
post_in_turn-held-requires-clause-first c =
    let of = IsPassOf c.args.board.now in
    let middle = All-pop of c.args.passes.now.passes c.pop.new.self.passes (Some c.in-Some.second) c.in-Some.ensures.some c.requires.all.of_board in
    (All-pop of c.pop.new.self.passes c.pop-2.new.self.passes (Some c.in-Some-pop.first) c.in-Some-pop.ensures.some middle.0).1

pub post_in_turn-held-requires-clause-second : goal.post_in_turn-held-requires-clause-second
post_in_turn-held-requires-clause-second c =
    (All-pop (IsPassOf c.args.board.now) c.args.passes.now.passes c.pop.new.self.passes (Some c.in-Some.second) c.in-Some.ensures.some c.requires.all.of_board).1

pub put_back-requires : goal.put_back-requires
put_back-requires c =
    omega (
      arith,
      c.requires.all.count,
      c.requires.all.room,
      c.pop.ensures.same.0,
      c.pop-2.ensures.same.0,
      ap length c.in-Some.ensures.some,
      ap length c.in-Some-pop.ensures.some,
      length_push c.pop.new.self.passes c.in-Some.second,
      length_push c.pop-2.new.self.passes c.in-Some-pop.first,
    )

pub put_back-requires-2 : goal.put_back-requires-2
put_back-requires-2 c =
    omega (
      arith,
      c.requires.all.count,
      c.requires.all.room,
      c.pop.ensures.same.0,
      c.pop-2.ensures.same.0,
      c.put_back.ensures.same.0,
      ap length c.in-Some.ensures.some,
      ap length c.in-Some-pop.ensures.some,
      ap length c.put_back.ensures.passes,
      length_push c.pop.new.self.passes c.in-Some.second,
      length_push c.pop-2.new.self.passes c.in-Some-pop.first,
      length_push c.pop-2.new.self.passes c.post_in_turn-held.new.first,
    )

pub returns : goal.returns
returns c = λ _.
    let last = c.post_in_turn-held.new.second in
    two_posted c.args.board.now c.args.passes.now c.put_back-2.new.self c.pop.new.self.passes c.pop-2.new.self.passes c.in-Some-pop.first c.in-Some.second c.post_in_turn-held.new.first last
    c.in-Some.ensures.some c.in-Some-pop.ensures.some (c.put_back-2.ensures.passes ∙ ap (λ (l : List PassState). l ++ last ∷ []) c.put_back.ensures.passes)
    (c.put_back-2.ensures.same.0 ∙ (c.put_back.ensures.same.0 ∙ (c.pop-2.ensures.same.0 ∙ c.pop.ensures.same.0)))
    (c.put_back-2.ensures.same.1 ∙ (c.put_back.ensures.same.1 ∙ (c.pop-2.ensures.same.1 ∙ c.pop.ensures.same.1)))
    c.post_in_turn-held.ensures.first c.post_in_turn-held.ensures.second c.requires.all
