use Rattle.std.proofs.Common.{◌≡◌, ◌<◌, length, true, false, get_or, arith, sym, ◌∙◌}
use Rattle.std.proofs.lemmas.List.{get_or_default}
use Rattle.aig_model.specs.Meaning.{Agrees}
use Rattle.aig_eval.proofs.resets.first_wrong.Goals as goal

pub returns-then-not-agrees : goal.returns-then-not-agrees
returns-then-not-agrees c =
    let latches = c.latches-latches.result.now in
    let place = c.loop-place.place in
    let latch = c.get.result.now in
    let inside : place < length latches = omega arith in
    record {
      here = record {
        inside = rw (← c.latches-latches.ensures) inside;
        differs = λ l agrees.
            let here : get_or latches place l ≡ latch = get_or_default latches place l latch inside ∙ sym c.get.ensures in
            let agrees_here : Agrees latch.reset c.get-in-loop-place.result =
            rw (← here, c.latches-latches.ensures, c.get-in-loop-place.ensures) agrees in
            let wrong : false ≡ true = c.if-not-agrees.ensures.1 agrees_here in
            cc;
      };
      before = λ j below wrong. wrong.differs latch (rw c.latches-latches.ensures at (c.loop-place.invariant j latch below));
    }
