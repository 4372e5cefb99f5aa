-- What a file has from a place on, and the places of its sections.
use Rattle.std.proofs.Common.{◌≡◌, ℕ, zero, suc, ◌+◌, ◌≤◌, Bool, true, false, cond, ◌==◌, List, [], ◌∷◌, length, drop, refl, sym, ap, ◌∙◌, arith}
use Rattle.text_words.specs.Text.{Rest, whole, line_after, next_line, after_lines}
use Rattle.aig_ascii.specs.Header.{sizes_of}
use Rattle.aig_ascii.specs.declared.header.Sizes.{Sizes}
use Rattle.aig_model.specs.declared.parts.Latch.{Latch}
use Rattle.aig_model.specs.declared.parts.AndGate.{AndGate}
use Rattle.aig_model.specs.declared.parts.Named.{Named}
use Rattle.aig_model.specs.declared.parts.Parts.{Parts}
use Rattle.aig_binary.specs.Aig.{Layout, layout_from, layout_of, parts_in}
use Rattle.aig_binary.specs.ReadSections.{IsRestOf}

record IsNext (file : List ℕ) (at : ℕ) (more : List ℕ) : Type 0 where
  rest : drop (suc at) file ≡ more
  within : suc at ≤ length file

next-byte : (file : List ℕ) (at b : ℕ) (bs : List ℕ) → drop at file ≡ b ∷ bs → IsNext file at bs
next-byte [] zero b bs e = cc
next-byte [] (suc at) b bs e = cc
next-byte (x ∷ xs) zero b bs e = record { rest = ap (drop 1) e; within = omega arith }
next-byte (x ∷ xs) (suc at) b bs e = let n = next-byte xs at b bs e in record { rest = n.rest; within = omega (arith, n.within) }

rest-line : (file : List ℕ) (at : ℕ) (bs : List ℕ) → at ≤ length file → drop at file ≡ bs → IsRestOf file (line_after at bs)
rest-line file at [] within is = record { within = within; bytes = sym is }
rest-line file at (b ∷ bs) within is =
    let n = next-byte file at b bs is in
    let one : suc at ≡ at + 1 = omega arith in
    let rest : drop (at + 1) file ≡ bs = ap (λ i. drop i file) (sym one) ∙ n.rest in
    let inside : at + 1 ≤ length file = omega (arith, n.within) in
    let step : (t : Bool) → IsRestOf file (cond t (record { at = at + 1; bytes = bs }) (line_after (at + 1) bs)) = λ t. elim t as (λ v. IsRestOf file (cond v (record { at = at + 1; bytes = bs }) (line_after (at + 1) bs))) [
      | true ↦ record { within = inside; bytes = sym rest }
      | false ↦ rest-line file (at + 1) bs inside rest
    ] in
    step (b == 10)

pub rest-next : (file : List ℕ) (r : Rest) → IsRestOf file r → IsRestOf file (next_line r)
rest-next file r p = rest-line file r.at r.bytes p.within (sym p.bytes)

pub rest-after : (file : List ℕ) (n : ℕ) (r : Rest) → IsRestOf file r → IsRestOf file (after_lines n r)
rest-after file zero r p = p
rest-after file (suc n) r p = rest-after file n (next_line r) (rest-next file r p)

pub rest-whole : (file : List ℕ) → IsRestOf file (whole file)
rest-whole file = record { within = omega arith; bytes = refl }

pub rest-gates : (file : List ℕ) (s : Sizes) (r : Rest) → IsRestOf file r → IsRestOf file (layout_from s r).gates
rest-gates file s r p = rest-after file s.constraints _ (rest-after file s.bads _ (rest-after file s.outputs _ (rest-after file s.latches r p)))

-- what is taken from the file at a place of it
pub taken : (file : List ℕ) (r : Rest) → IsRestOf file r → (b : Rest) → b ≡ record { at = r.at; bytes = drop r.at file } → b ≡ r
taken file r p b e = e ∙ ap (λ (xs : List ℕ). let s : Rest = record { at = r.at; bytes = xs } in s) (sym p.bytes)

pub layout-read : (file : List ℕ) (r s : Rest) (sizes : Sizes) → r ≡ whole file → sizes ≡ sizes_of r → s ≡ next_line r → layout_from sizes s ≡ layout_of file
layout-read file r s sizes p q n =
    ap (λ (x : Sizes). layout_from x s) (q ∙ ap sizes_of p) ∙ ap (λ (x : Rest). layout_from (sizes_of (whole file)) x) (n ∙ ap next_line p)

-- parts whose sections are those of a layout
pub parts-read : (l : Layout) (inputs : List ℕ) (latches : List Latch) (outputs bads constraints : List ℕ) (gates : List AndGate) (names : List Named) → inputs ≡ (parts_in l).inputs
    → latches ≡ (parts_in l).latches → outputs ≡ (parts_in l).outputs → bads ≡ (parts_in l).bads → constraints ≡ (parts_in l).constraints → gates ≡ (parts_in l).gates → names ≡ (parts_in l).names
    → ◌≡◌ {A = Parts} (record { top = l.sizes.top; inputs = inputs; latches = latches; outputs = outputs; bads = bads; constraints = constraints; gates = gates; names = names }) (parts_in l)
parts-read l inputs latches outputs bads constraints gates names p1 p2 p3 p4 p5 p6 p7 =
    let c = parts_in l in
    ap (λ (xs : List ℕ). let x : Parts = record { top = c.top; inputs = xs; latches = latches; outputs = outputs; bads = bads; constraints = constraints; gates = gates; names = names } in x) p1
    ∙ ap (λ (xs : List Latch). record c { latches = xs; outputs = outputs; bads = bads; constraints = constraints; gates = gates; names = names }) p2
    ∙ ap (λ (xs : List ℕ). record c { outputs = xs; bads = bads; constraints = constraints; gates = gates; names = names }) p3
    ∙ ap (λ (xs : List ℕ). record c { bads = xs; constraints = constraints; gates = gates; names = names }) p4
    ∙ ap (λ (xs : List ℕ). record c { constraints = xs; gates = gates; names = names }) p5
    ∙ ap (λ (xs : List AndGate). record c { gates = xs; names = names }) p6
    ∙ ap (λ (xs : List Named). record c { names = xs }) p7
