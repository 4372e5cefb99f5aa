use Rattle.std.proofs.Common.{◌≡◌, ◌∙◌, sym, ap, length, eq-eqb}
use Rattle.std.proofs.lemmas.Bool.{eqb-true}
use Rattle.aig_model.proofs.Packed.{length-unpacked, unpacked_empty}
use Rattle.aig_model.proofs.bits.Bits.is_empty.Goals as goal

pub returns : goal.returns
returns c =
    let size : length c.args.self.now ≡ c.self.inside.len = rw (← c.self.view_is) (length-unpacked c.self.inside.words.items c.self.inside.len) in (
      λ h. sym c.self.view_is ∙ unpacked_empty c.self.inside.words.items c.self.inside.len (eqb-true c.self.inside.len 0 h),
      λ e. eq-eqb c.self.inside.len 0 (sym size ∙ ap length e),
    )
