-- What can be printed, and how far a print has come. Definitions only.
use Rattle.std.specs.Prelude.{◌≡◌, List, ℕ, ◌+◌, ◌-◌, ◌*◌, ◌/◌, ◌^◌, ◌<◌, ◌≤◌, length, get_or}
use Rattle.tree_sizes.specs.Sizes as sizes
use Rattle.tree_sizes.specs.Sizes.{height}
use Rattle.store_layout.specs.Layout.{Store}
use Rattle.frame_replies.specs.Reply.{bytes_of}
use Rattle.frame_replies.specs.Wrote.{Writing}
use Rattle.frame_answers.specs.Step.{leaf_replies}

-- The store can be printed: it has 256 counts, its slots and its counts are enough for its size parameter, and that has 16 bits.
pub record PrintReady (store : Store) : Type 0 where
  pub size : get_or store.counts 0 0 < 2 ^ 16
  pub slots_fit : sizes.slots (get_or store.counts 0 0) ≤ length store.slots
  pub counts_are : length store.counts ≡ 256
  pub counts_fit : 2 * 2 ^ height (get_or store.counts 0 0) ≤ length store.counts

-- The lines of the leaves are no longer than this: 11 bytes for each leaf and 16 for each slot.
unfoldable pub leaves_most : Store → ℕ
leaves_most store = 11 * (length store.counts / 2) + 16 * length store.slots

-- The first j of k leaves are written, and there is room for the others.
pub record LeavesWritten (slots counts : List ℕ) (s k : ℕ) (old : List ℕ) (at j : ℕ) (new : List ℕ) (next : ℕ) : Type 0 where
  pub most : j ≤ k
  pub writing : Writing old at (bytes_of (leaf_replies slots counts s k 0 k)) (bytes_of (leaf_replies slots counts s k j (k - j))) new next
  pub room : next + (k - j) * (11 + 16 * s) ≤ length new
