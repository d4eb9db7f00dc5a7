-- What a section says of its step.
use Rattle.std.specs.Prelude.{◌≡◌, ◌⊎◌, true, false, List, ◌∷◌, ◌++◌}
use Rattle.sv_load.specs.Load.{Load}
use Rattle.sv_recorder.specs.declared.answer.Answer.{Answer}
use Rattle.sv_recorder.specs.declared.answer.Answer.TheVariants as answers
use Rattle.sv_journal.specs.declared.journal.Origin.{Origin}
use Rattle.sv_journal.specs.declared.journal.Outcome.{Outcome}
use Rattle.sv_journal.specs.declared.journal.Outcome.TheVariants.{Stored, Refused, Ignored}
use Rattle.sv_journal.specs.declared.journal.Outcome.TheVariants.{Handled}
use Rattle.sv_journal.specs.declared.journal.Item.{Item}
use Rattle.sv_journal.specs.Legal.{is_control}

abbrev pub answer_of : Outcome → Answer
answer_of Stored = answers.Sent
answer_of Refused = answers.Refused
answer_of Ignored = answers.Ignored
answer_of Handled = answers.Ran

-- a journal has gained an item of this origin, with this outcome, among others
pub record Gains (old new : List Item) (origin : Origin) (outcome : Outcome) : Type 0 where
  pub before : List Item
  pub item : Item
  pub later : List Item
  pub gained : new ≡ old ++ (before ++ item ∷ later)
  pub origin_is : item.origin ≡ origin
  pub outcome_is : item.outcome ≡ outcome

-- a start or a stop ran; of another step the answer is what became of its call, which the journal
-- has gained
abbrev pub IsAnswered : Load → List Item → List Item → Origin → Answer → Type 0
IsAnswered load old new call answer =
    ((is_control load call ≡ true) × (answer ≡ answers.Ran))
    ⊎ ((is_control load call ≡ false) × (outcome : Outcome) × Gains old new call outcome
    × (answer ≡ answer_of outcome))
