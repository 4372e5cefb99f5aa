use Rattle.std.proofs.Common.{◌≡◌, ◌++◌, map}
use Rattle.text_words.specs.Text.{after_lines}
use Rattle.aig_ascii.specs.Sections.{plain, section_demands, section_uses, lits_of}
use Rattle.aig_ascii.specs.Drafts.{definers_of, use_of, StandFor}
use Rattle.aig_ascii.specs.FirstFaults.{first_unmet}
use Rattle.aig_ascii.proofs.sections.read_lits.Given as goal

abbrev pub invariant-loop-left : goal.invariant-loop-left
invariant-loop-left l = record {
  demands : first_unmet (section_demands plain l.left l.draft.top (definers_of l.draft) l.cursor) ≡ first_unmet (section_demands plain l.count l.fn.draft.top (definers_of l.fn.draft) l.fn.cursor);
  draft : l.draft ≡ record l.fn.draft { pending = l.draft.pending };
  lits : l.lits ++ lits_of l.left l.cursor ≡ lits_of l.count l.fn.cursor;
  uses : StandFor (definers_of l.draft) (l.draft.pending ++ map use_of (section_uses plain l.left l.cursor)) (l.fn.draft.pending ++ map use_of (section_uses plain l.count l.fn.cursor));
  next : after_lines l.left l.cursor ≡ after_lines l.count l.fn.cursor;
}

abbrev pub decreases-loop-left : goal.decreases-loop-left
decreases-loop-left l = l.left
