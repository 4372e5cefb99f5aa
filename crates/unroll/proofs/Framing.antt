-- Frames with a question behind them.
use Rattle.std.proofs.Common.{◌≡◌, ℕ, zero, suc, ◌+◌, ◌<◌, ◌≤◌, ℤ, List, ◌++◌, length, take, refl, sym, ap, subst, ◌∙◌, arith}
use Rattle.std.proofs.lemmas.List.{take_all}
use Rattle.cnf_base.specs.Meaning.{CnfFormula}
use Rattle.aig_model.specs.WellFormed.{IsCircuit}
use Rattle.aig_model.specs.declared.parts.Parts.{Parts}
use Rattle.unroll.specs.declared.start.Start.{Start}
use Rattle.unroll.specs.declared.start.Start.TheVariants.{Any}
use Rattle.unroll.specs.Starts.{IsStart}
use Rattle.unroll.specs.Building.{with_clauses}
use Rattle.unroll.specs.Frames.{vars_before, undefined_vars, frame_clauses, frames_clauses, frames_formula}
use Rattle.unroll.specs.Framing.{Framing, IsFraming, HasFrames}
use Rattle.unroll.proofs.Growth.{steps_more}

-- ---- the same frames, named otherwise
moved : (f : Framing) (circuit : Parts) (start : Start) (last : ℕ) (undefined : List ℕ) (frames : ℕ) → IsFraming f → circuit ≡ f.circuit → start ≡ f.start
    → last ≡ f.last → undefined ≡ f.undefined → frames ≡ f.frames
    → IsFraming (record { circuit = circuit; start = start; last = last; undefined = undefined; frames = frames; formula = f.formula })
moved f circuit start last undefined frames h same_circuit same_start same_last same_undefined same_frames =
    subst (λ (n : ℕ). IsFraming (record { circuit = circuit; start = start; last = last; undefined = undefined; frames = n; formula = f.formula })) (sym same_frames)
    (subst (λ (vs : List ℕ). IsFraming (record { circuit = circuit; start = start; last = last; undefined = vs; frames = f.frames; formula = f.formula })) (sym same_undefined)
    (subst (λ (n : ℕ). IsFraming (record { circuit = circuit; start = start; last = n; undefined = f.undefined; frames = f.frames; formula = f.formula })) (sym same_last)
    (subst (λ (s : Start). IsFraming (record { circuit = circuit; start = s; last = f.last; undefined = f.undefined; frames = f.frames; formula = f.formula })) (sym same_start)
    (subst (λ (c : Parts). IsFraming (record { circuit = c; start = f.start; last = f.last; undefined = f.undefined; frames = f.frames; formula = f.formula })) (sym same_circuit) h))))

-- ---- one step more
-- after step 0 no frame depends on the start
any_start : (c : Parts) (start : Start) (t : ℕ) → 0 < t → frame_clauses c Any t ≡ frame_clauses c start t
any_start c start zero later = absurd (omega arith)
any_start c start (suc t) later = refl

pub one_more : (c : Parts) (start : Start) (last : ℕ) (clauses : List (List ℤ)) → clauses ≡ frames_clauses c start last ++ frame_clauses c Any (last + 1)
    → clauses ≡ frames_clauses c start (last + 1)
one_more c start last clauses e =
    e ∙ (ap (λ (cs : List (List ℤ)). frames_clauses c start last ++ cs) (any_start c start (last + 1) (omega arith)) ∙ sym (steps_more (frame_clauses c start) (last + 1)))

pub advanced : (f : Framing) (c : Parts) (w g : CnfFormula) (vars : ℕ) → IsFraming f → f.circuit ≡ c → vars ≡ vars_before c (f.last + 1 + 1)
    → w ≡ record { vars = vars; clauses = take f.frames f.formula.clauses } → g ≡ with_clauses w (frame_clauses c Any (f.last + 1))
    → g ≡ frames_formula f.circuit f.start (f.last + 1)
advanced f c w g vars h same room wide more =
    let frame = frame_clauses f.circuit Any (f.last + 1) in
    let here : vars ≡ vars_before f.circuit (f.last + 1 + 1) = room ∙ ap (λ (p : Parts). vars_before p (f.last + 1 + 1)) (sym same) in
    let first : g ≡ with_clauses w frame = more ∙ ap (λ (p : Parts). with_clauses w (frame_clauses p Any (f.last + 1))) (sym same) in
    first
    ∙ (ap (λ (k : CnfFormula). with_clauses k frame) wide
    ∙ (ap (λ (n : ℕ). record { vars = n; clauses = take f.frames f.formula.clauses ++ frame }) here
    ∙ ap (λ (cs : List (List ℤ)). record { vars = vars_before f.circuit (f.last + 1 + 1); clauses = cs })
    (one_more f.circuit f.start f.last _ (ap (λ (cs : List (List ℤ)). cs ++ frame) h.begins))))

pub whole : (c : Parts) (start : Start) (last : ℕ) (f : Framing) → IsCircuit c → IsStart c start → vars_before c (last + 1) ≤ 4000000 → f.circuit ≡ c
    → f.start ≡ start → f.last ≡ last → f.undefined ≡ undefined_vars c → f.frames ≡ length f.formula.clauses → f.formula ≡ frames_formula c start last
    → HasFrames c start last f
whole c start last f ok is few circuit begins ends undefined frames formula =
    let clauses : f.formula.clauses ≡ frames_clauses c start last = ap (λ (g : CnfFormula). g.clauses) formula in
    let same : Framing = record { circuit = c; start = start; last = last; undefined = undefined_vars c; frames = f.frames; formula = f.formula } in
    let framing : IsFraming same = record {
      circuit = ok;
      start = is;
      few = few;
      undefined = refl;
      inside = omega (arith, frames);
      vars = ap (λ (g : CnfFormula). g.vars) formula;
      begins = take_all f.frames f.formula.clauses (omega (arith, frames)) ∙ clauses;
    } in
    record {
      framing = moved same f.circuit f.start f.last f.undefined f.frames framing circuit begins ends undefined refl;
      circuit = circuit;
      start_is = begins;
      last_is = ends;
    }
