use Rattle.std.proofs.Common.{◌≡◌, ℕ, ◌+◌, ◌-◌, ◌*◌, List, length, map, refl, sym, ap, ◌∙◌, subst, arith, inl, inr}
use Rattle.std.specs.Prelude.{option_copied}
use Rattle.std.specs.List.{range_with_len}
use Rattle.std.proofs.Math.Nat.{add-mul}
use Rattle.std.proofs.lemmas.Bool.{cases_lt, false≢true}
use Rattle.std.proofs.lemmas.List.{length-replicate, with_items_is}
use Rattle.std.proofs.lemmas.List.FromFn.{length-map-range_with_len}
use Rattle.sim_walk.specs.declared.visit.Visit.{Visit}
use Rattle.sim_batch.specs.Batch.{lanes_of, start_bits}
use Rattle.sim_batch.specs.Ends.{IsOver}
use Rattle.sim_batch.specs.Steps.{AreGiven, VisitsBefore}
use Rattle.sim_batch.specs.Words.{after_words, batch_generator, word_at}
use Rattle.sim_batch.proofs.Begins.{are_given, length-lanes}
use Rattle.sim_batch.proofs.Drawn.{after_more}
use Rattle.sim_batch.proofs.SoFar.{visits_none}
use Rattle.sim_lanes.specs.LaneValues.{AreBlank}
use Rattle.sim_lanes.specs.Lanes.{AreLanesAt, IsFirst}
use Rattle.sim_lanes.proofs.LaneSteps.{zeros_blank}
use Rattle.sim_lanes.proofs.Starts.{first_at, first_sized}
use Rattle.sim_lanes.proofs.walked.walk.Goals as goal

pub loop-step-init : goal.loop-step-init
loop-step-init c =
    let from = option_copied c.args.from in
    let circuit = c.args.circuit.now in
    let sig = c.args.signals.now.lits in
    let g = batch_generator c.args.options.now.seed c.args.batch in
    let none : start_bits circuit from ≡ start_bits circuit from + 0 * length circuit.inputs = omega arith in
    let first : IsFirst circuit sig from c.in_ok-start.start.items c.in_ok-lanes.lanes =
    subst (λ (ws : List ℕ). IsFirst circuit sig from ws c.in_ok-lanes.lanes) c.as_slice.ensures.value c.in_ok-lanes.ensures in
    record {
      words = ap length (c.in_ok-words.ensures.items_if_clones_equal (λ y e. e)) ∙ (length-replicate c.len.result 0 ∙ (c.len.ensures ∙ ap length c.inputs.ensures));
      blank = zeros_blank circuit c.in_ok-values.values.items (c.top.result + 1) (c.in_ok-values.ensures.items_if_clones_equal (λ y e. e)) (ap (λ n. n + 1) c.top.ensures.value);
      sized = first_sized circuit sig from c.in_ok-start.start.items c.in_ok-lanes.lanes c.are_seeds.ensures c.requires.seed first;
      goals = c.in_ok-visits.ensures.goals ∙ c.goals.ensures;
      generator = c.in_ok-start.ensures.generator ∙ (ap (λ s. after_words s (start_bits circuit from)) c.batch_generator-generator.ensures ∙ ap (after_words g) none);
      at = first_at circuit sig c.args.options.now.seed c.args.batch from c.in_ok-start.start.items c.in_ok-lanes.lanes
          (rw (← c.batch_generator-generator.ensures) c.in_ok-start.ensures.words) first;
      so_far = subst (λ (vs : List Visit). VisitsBefore circuit sig (lanes_of circuit c.args.options.now.seed c.args.batch from) 0 0 vs) (sym c.in_ok-visits.ensures.visits)
          (visits_none circuit sig (lanes_of circuit c.args.options.now.seed c.args.batch from));
      going = λ s inside. absurd (omega (arith, inside));
    }

pub step_lanes-requires-clause-words : goal.step_lanes-requires-clause-words
step_lanes-requires-clause-words c =
    ap length (c.as_slice-in-loop-step.ensures.value ∙ c.draw.ensures.words)
    ∙ (length-map-range_with_len (word_at c.loop-step.generator) 0 (length c.loop-step.words.items) ∙ c.loop-step.invariant.words)

pub returns-then-is_over : goal.returns-then-is_over
returns-then-is_over c =
    let from = option_copied c.args.from in
    let circuit = c.args.circuit.now in
    let sig = c.args.signals.now.lits in
    let seed = c.args.options.now.seed in
    let batch = c.args.batch in
    let lanes = lanes_of circuit seed batch from in
    let t : ℕ = c.loop-step.step in
    let given : AreGiven c.as_slice-in-loop-step.result.now lanes t = are_given circuit seed batch from c.as_slice-in-loop-step.result.now t
    (c.as_slice-in-loop-step.ensures.value ∙ (c.draw.ensures.words
    ∙ (ap (λ n. map (word_at c.loop-step.generator) (range_with_len 0 n)) c.loop-step.invariant.words
    ∙ ap (λ g. map (word_at g) (range_with_len 0 (length circuit.inputs))) c.loop-step.invariant.generator))) in
    let stepped = c.in_ok-step_lanes.ensures.steps lanes given c.loop-step.invariant.at c.loop-step.invariant.so_far in
    let over = c.is_over.ensures lanes (length-lanes circuit seed batch from) stepped.0
    (subst (λ (vs : List Visit). VisitsBefore circuit sig lanes (t + 1) 0 vs) (sym c.visits-in-loop-step-2.ensures) stepped.1) in
    record {
      last = t;
      steps = refl;
      ends = record {
        here = inr (over.0 c.if-is_over.true);
        before = λ j before may. elim may [
          | inl e ↦ absurd (omega (arith, e, before))
          | inr o ↦ c.loop-step.invariant.going j before o
        ];
      };
      sized = c.step_lanes.ensures.sized;
      at = stepped.0;
      so_far = stepped.1;
    }

pub loop-step-preserved : goal.loop-step-preserved
loop-step-preserved c =
    let from = option_copied c.args.from in
    let circuit = c.args.circuit.now in
    let sig = c.args.signals.now.lits in
    let seed = c.args.options.now.seed in
    let batch = c.args.batch in
    let lanes = lanes_of circuit seed batch from in
    let t : ℕ = c.loop-step.step in
    let inputs : ℕ = length circuit.inputs in
    let skip : ℕ = start_bits circuit from in
    let given : AreGiven c.as_slice-in-loop-step.result.now lanes t = are_given circuit seed batch from c.as_slice-in-loop-step.result.now t
    (c.as_slice-in-loop-step.ensures.value ∙ (c.draw.ensures.words
    ∙ (ap (λ n. map (word_at c.loop-step.generator) (range_with_len 0 n)) c.loop-step.invariant.words
    ∙ ap (λ g. map (word_at g) (range_with_len 0 (length circuit.inputs))) c.loop-step.invariant.generator))) in
    let stepped = c.in_ok-step_lanes.ensures.steps lanes given c.loop-step.invariant.at c.loop-step.invariant.so_far in
    let over = c.is_over.ensures lanes (length-lanes circuit seed batch from) stepped.0
    (subst (λ (vs : List Visit). VisitsBefore circuit sig lanes (t + 1) 0 vs) (sym c.visits-in-loop-step-2.ensures) stepped.1) in
    let next : skip + t * inputs + inputs ≡ skip + (t + 1) * inputs = omega (arith, add-mul t 1 inputs) in
    record {
      words = ap length c.draw.ensures.words ∙ (length-map-range_with_len (word_at c.loop-step.generator) 0 (length c.loop-step.words.items) ∙ c.loop-step.invariant.words);
      blank = subst (λ (vs : List ℕ). AreBlank circuit vs)
          (sym (with_items_is c.loop-step.values c.step_lanes.new.values
          (omega (arith, c.step_lanes.ensures.blank.size, c.loop-step.invariant.blank.size, c.loop-step.values.ok.0)))) c.step_lanes.ensures.blank;
      sized = c.step_lanes.ensures.sized;
      goals = c.step_lanes.ensures.goals ∙ c.loop-step.invariant.goals;
      generator = c.draw.ensures.generator ∙ (ap (λ g. after_words g (length c.loop-step.words.items)) c.loop-step.invariant.generator
          ∙ (ap (after_words (after_words (batch_generator seed batch) (skip + t * inputs))) c.loop-step.invariant.words
          ∙ (after_more (batch_generator seed batch) (skip + t * inputs) inputs ∙ ap (after_words (batch_generator seed batch)) next)));
      at = stepped.0;
      so_far = stepped.1;
      going = λ s before. elim (cases_lt s t) [
        | inl less ↦ c.loop-step.invariant.going s less
        | inr ge ↦ (
            let here : s ≡ t = omega (arith, before, ge) in
            λ o. false≢true (sym c.if-is_over.false ∙ over.1 (subst (λ (x : ℕ). IsOver circuit sig lanes c.args.options.now.stall x) here o))
            )
      ];
    }

pub returns : goal.returns
returns c =
    let from = option_copied c.args.from in
    let circuit = c.args.circuit.now in
    let sig = c.args.signals.now.lits in
    let lanes = lanes_of circuit c.args.options.now.seed c.args.batch from in
    let t : ℕ = c.loop-step.step in
    let whole : t ≡ c.args.options.now.length = omega arith in
    let back : t ≡ t - 1 + 1 = omega (arith, whole, c.requires.length) in
    record {
      last = t - 1;
      steps = sym whole ∙ back;
      ends = record {
        here = inl (sym back ∙ whole);
        before = λ j before may. elim may [
          | inl e ↦ absurd (omega (arith, e, before, whole))
          | inr o ↦ c.loop-step.invariant.going j (omega (arith, before)) o
        ];
      };
      sized = c.loop-step.invariant.sized;
      at = subst (λ (n : ℕ). AreLanesAt circuit sig lanes n c.loop-step.lanes) back c.loop-step.invariant.at;
      so_far = subst (λ (n : ℕ). VisitsBefore circuit sig lanes n 0 c.loop-step.visits.visits) back c.loop-step.invariant.so_far;
    }
