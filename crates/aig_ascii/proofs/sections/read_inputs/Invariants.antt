use Rattle.std.proofs.Common.{◌≡◌, ◌++◌}
use Rattle.text_words.specs.Text.{after_lines}
use Rattle.aig_ascii.specs.Sections.{input, section_demands, lits_of}
use Rattle.aig_ascii.specs.Drafts.{definers_of}
use Rattle.aig_ascii.specs.FirstFaults.{first_unmet}
use Rattle.aig_ascii.proofs.sections.read_inputs.Given as goal

abbrev pub invariant-loop-left : goal.invariant-loop-left
invariant-loop-left l = record {
  demands : first_unmet (section_demands input l.left l.draft.top (definers_of l.draft) l.cursor) ≡ first_unmet (section_demands input l.count l.fn.draft.top (definers_of l.fn.draft) l.fn.cursor);
  draft : l.draft ≡ record l.fn.draft { inputs = l.draft.inputs };
  inputs : l.draft.inputs ++ lits_of l.left l.cursor ≡ l.fn.draft.inputs ++ lits_of l.count l.fn.cursor;
  next : after_lines l.left l.cursor ≡ after_lines l.count l.fn.cursor;
}

abbrev pub decreases-loop-left : goal.decreases-loop-left
decreases-loop-left l = l.left
