-- The frames that only ask, and their answers. Definitions only.
use Rattle.std.specs.Prelude.{Option, Some, None, List, []}
use Rattle.call_outcomes.specs.Plain.{PlainStore}
use Rattle.frame_lines.specs.declared.Frame.{Frame}
use Rattle.frame_lines.specs.declared.Frame.TheVariants.{Insert, Delete, Read, Tape, Print, Clear, Place}
use Rattle.frame_replies.specs.Reply.{Reply}
use Rattle.frame_answers.specs.Step.{answer_to}
use Rattle.frame_answers.specs.Gives.{kept_of}

-- The frame only asks: everything is kept.
unfoldable pub Asks : Option Frame → Type 0
Asks (Some (Insert rank entry)) = ⊥
Asks (Some (Delete rank)) = ⊥
Asks (Some (Read first last)) = Unit {0}
Asks (Some (Tape words)) = ⊥
Asks (Some Print) = Unit {0}
Asks (Some Clear) = ⊥
Asks (Some (Place rank)) = Unit {0}
Asks None = Unit {0}

-- Its answer, which the line and the tape do not bear on.
unfoldable pub replies_to : Option Frame → PlainStore → List Reply
replies_to frame store = (answer_to frame [] (kept_of store [] 0)).replies
