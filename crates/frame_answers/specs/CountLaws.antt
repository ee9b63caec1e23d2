-- What an answer says of a sheet: N is the number of its entries.
use Rattle.std.specs.Prelude.{◌≡◌, length}
use Rattle.std.proofs.Math.Option.{some}
use Rattle.store_layout.specs.Decode.{Contents, decode}
use Rattle.store_layout.proofs.SheetLaws as sheet
use Rattle.call_outcomes.specs.Plain.{PlainStore}
use Rattle.call_outcomes.specs.Clubs.{clubs}
use Rattle.call_outcomes.proofs.ClubsLaws.{clubs_roomy}
use Rattle.frame_answers.specs.Step.{entry_count}

pub count_is : (store : PlainStore) (c : Contents) → decode clubs store.sheet ≡ some c → entry_count store ≡ length c.list
unfolding entry_count
count_is store = sheet.count_is clubs clubs_roomy store.sheet
