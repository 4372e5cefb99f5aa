use Rattle.std.proofs.Common.{◌≡◌, ℕ, ◌-◌, ◌≤◌, List, ◌∷◌, length, get_or, take, drop, Option, Some, None, sym, ◌∙◌, ap}
use Rattle.std.specs.Global.{Vec}
use Rattle.command_words.specs.declared.settings.Given.{Given}
use Rattle.command_words.specs.declared.settings.Taken.{Taken}
use Rattle.command_words.specs.Settings.{given_after}
use Rattle.command_words.specs.Words.{texts}
use Rattle.command_words.specs.Commands.{given_from}
use Rattle.command_words.proofs.FrontWord.{texts-front}
use Rattle.command_words.proofs.settings.given_by.Goals as goal

-- what the words give from the loop's place on, once the next option was tried
given_from-tried : (g : Given) (words : List (Vec ℕ)) (first : Vec ℕ) (name : List ℕ) (outcome tried : Option Taken) (whole : Option Given) → 1 ≤ length words
    → first ≡ get_or words 0 first → name ≡ first.items
    → given_from outcome ≡ given_after (Some g) None (name ∷ texts (take (length words - 1) (drop 1 words))) → outcome ≡ tried
    → given_after (Some g) None (texts words) ≡ whole → given_from tried ≡ whole
given_from-tried g words first name outcome tried whole l e is value was invariant =
    ap given_from (sym was)
    ∙ (value
    ∙ (ap (λ (ws : List (List ℕ)). given_after (Some g) None ws) (sym (texts-front words first name l e is))
    ∙ invariant))

pub returns-in_err-taken : goal.returns-in_err-taken
returns-in_err-taken c =
    c.from_residual.ensures
    ∙ given_from-tried c.loop-rest.given c.loop-rest.rest.now c.name-item.result c.deref.result.now c.option_taken.result None _ c.in-len1-up.len_at_least
    c.name-item.is c.deref.ensures.value c.option_taken.ensures.value c.in_err-taken.was c.loop-rest.invariant

pub loop-rest-preserved : goal.loop-rest-preserved
loop-rest-preserved c =
    given_from-tried c.loop-rest.given c.loop-rest.rest.now c.name-item.result c.deref.result.now c.option_taken.result (Some c.in_ok-taken.taken) _
    c.in-len1-up.len_at_least c.name-item.is c.deref.ensures.value c.option_taken.ensures.value c.in_ok-taken.was c.loop-rest.invariant
