use Rattle.std.proofs.Common.{◌≡◌, ◌≤◌, ◌+◌, ◌*◌, length, refl, sym, ap, subst, ◌∙◌, arith}
use Rattle.std.proofs.lemmas.Bool.{false≢true}
use Rattle.aig_model.specs.declared.parts.Parts.{Parts}
use Rattle.unroll.specs.Frames.{AreTooLarge, vars_before}
use Rattle.unroll.specs.Framing.{Framing, IsFraming, HasFrames}
use Rattle.unroll.proofs.Framing.{advanced, whole}
use Rattle.unroll.proofs.framed.FramedFormula.advance.Goals as goal

pub returns-clause-frames : goal.returns-clause-frames
returns-clause-frames c =
    let kept = c.self.inside in
    let old : Framing = record {
      circuit = kept.circuit.value;
      start = kept.start.value;
      last = kept.last;
      undefined = kept.undefined.items;
      frames = kept.frames;
      formula = kept.formula;
    } in
    let new : Framing = record {
      circuit = kept.circuit.value;
      start = kept.start.value;
      last = kept.last + 1;
      undefined = kept.undefined.items;
      frames = c.len-self-inside.result;
      formula = c.add_frame.new.formula;
    } in
    let circuit = c.args.circuit.now in
    let framing : IsFraming old = subst IsFraming (sym c.self.view_is) c.requires.framing in
    let same : kept.circuit.value ≡ circuit = ap (λ (f : Framing). f.circuit) c.self.view_is ∙ c.requires.circuit in
    let small : ¬ AreTooLarge circuit (kept.last + 1) = λ h. false≢true (sym c.if-are_too_large.false ∙ c.are_too_large.ensures.1 h) in
    let few : vars_before circuit (kept.last + 1 + 1) ≤ 4000000 = omega (arith, small) in
    let room : (kept.last + 1 + 1) * (c.top.result + 1) ≡ vars_before circuit (kept.last + 1 + 1) = ap (λ n. (kept.last + 1 + 1) * (n + 1)) c.top.ensures.value in
    let frames : HasFrames old.circuit old.start (old.last + 1) new =
    whole old.circuit old.start (old.last + 1) new framing.circuit framing.start
    (subst (λ (p : Parts). vars_before p (kept.last + 1 + 1) ≤ 4000000) (sym same) few) refl refl refl framing.undefined
    (c.len-self-inside.ensures ∙ ap length c.clauses.ensures.value)
    (advanced old circuit c.in_ok-formula.formula c.add_frame.new.formula _ framing same room c.in_ok-formula.ensures c.in_ok-add_frame.ensures)
    in
    subst (λ (f : Framing). HasFrames f.circuit f.start (f.last + 1) new) c.self.view_is frames
