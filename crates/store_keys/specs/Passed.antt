-- Slots passed from left to right: the last key so far. Definitions only.
use Rattle.std.specs.Prelude.{ℕ}
use Rattle.base.specs.Cases.{if_eq}
use Rattle.store_keys.specs.Key.{key}

-- The last key behind a slot, where `last` is the one before it: that of the entry that it holds, if it holds one.
unfoldable pub key_after : ℕ → ℕ → ℕ
key_after last held = if_eq held 0 last (key held)
