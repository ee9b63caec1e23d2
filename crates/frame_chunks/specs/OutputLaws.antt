-- What the program writes parts again at its LFs, line by line, into the replies that it gave.
use Rattle.std.specs.Prelude.{Option, ◌≡◌, refl, false, ◌≢◌, List, [], ◌∷◌, ◌++◌, map, ℕ, zero, suc, ◌+◌, ◌/◌, ◌%◌}
use Rattle.std.proofs.Common.{ap, ap₂, ◌∙◌, append_assoc, arith}
use Rattle.base.specs.Lists.{Every}
use Rattle.base.specs.ListLaws.{every_append}
use Rattle.base.specs.CaseLaws.{by_lt}
use Rattle.frame_input.specs.Lines.{lines_of, has_lf}
use Rattle.frame_input.proofs.CollectLaws.{has_other}
use Rattle.frame_input.proofs.LineLaws.{lines_ended}
use Rattle.frame_replies.specs.Reply.{hex_digit, digits, entry_digits, header, Reply, brief, entries, placed, sheet, leaf, encode, line_of, bytes_of}
use Rattle.frame_replies.specs.ReadBack.{reply_of, Writable}
use Rattle.frame_replies.proofs.ReadBackLaws.{reply_back}
use Rattle.frame_lines.specs.declared.Frame.{Frame}
use Rattle.frame_answers.specs.Step.{Kept, answer_to}
use Rattle.frame_answers.specs.Fits.{StoreFits}
use Rattle.frame_answers.specs.WritableLaws.{replies_writable}

-- ---- no byte of a line is LF

unfoldable NotLf : ℕ → Type 0
NotLf b = b ≢ 10

digit_not_lf : (v : ℕ) → NotLf (hex_digit v)
unfolding NotLf hex_digit
digit_not_lf v = by_lt NotLf v 10 (48 + v) (55 + v) (λ h e. omega arith) (λ h e. omega arith)

digits_not_lf : (c v : ℕ) → Every NotLf (digits c v)
unfolding digits Every
digits_not_lf zero v = tt
digits_not_lf (suc c) v =
    every_append NotLf (digits c (v / 16)) (hex_digit (v % 16) ∷ []) (digits_not_lf c (v / 16)) (digit_not_lf (v % 16), tt)

entries_not_lf : (list : List ℕ) → Every NotLf (entry_digits list)
unfolding entry_digits Every
entries_not_lf [] = tt
entries_not_lf (e ∷ list) = every_append NotLf (digits 16 e) (entry_digits list) (digits_not_lf 16 e) (entries_not_lf list)

numbers_not_lf : (v a w b c : ℕ) → Every NotLf (digits v a ++ (digits w b ++ digits 4 c))
numbers_not_lf v a w b c =
    every_append NotLf (digits v a) (digits w b ++ digits 4 c) (digits_not_lf v a)
    (every_append NotLf (digits w b) (digits 4 c) (digits_not_lf w b) (digits_not_lf 4 c))

header_not_lf : (w kind a b : ℕ) → Every NotLf (header w kind a b)
unfolding header
header_not_lf w kind a b = numbers_not_lf 2 kind w a b

line_not_lf : (reply : Reply) → Every NotLf (encode reply)
unfolding encode
line_not_lf (brief kind number n) = header_not_lf 2 kind number n
line_not_lf (entries n list) = every_append NotLf (header 2 131 0 n) (entry_digits list) (header_not_lf 2 131 0 n) (entries_not_lf list)
line_not_lf (placed n place sum boats) =
    every_append NotLf (header 2 135 0 n) (digits 4 place ++ (digits 8 sum ++ digits 4 boats)) (header_not_lf 2 135 0 n)
    (numbers_not_lf 4 place 8 sum boats)
line_not_lf (sheet m n) = header_not_lf 4 144 m n
line_not_lf (leaf number count slots) =
    every_append NotLf (header 4 145 number count) (entry_digits slots) (header_not_lf 4 145 number count) (entries_not_lf slots)

no_lf : (bytes : List ℕ) → Every NotLf bytes → has_lf bytes ≡ false
unfolding NotLf Every has_lf
no_lf [] p = refl
no_lf (b ∷ bytes) p = has_other b bytes p.0 ∙ no_lf bytes p.1

-- ---- the lines, and the replies

-- The lines of the bytes that are written are the lines of the replies.
pub replies_part : (replies : List Reply) → lines_of (bytes_of replies) ≡ map encode replies
unfolding bytes_of line_of lines_of
replies_part [] = refl
replies_part (reply ∷ replies) =
    ap lines_of (append_assoc (encode reply) (10 ∷ []) (bytes_of replies))
    ∙ lines_ended (encode reply) (bytes_of replies) (no_lf (encode reply) (line_not_lf reply))
    ∙ ap (λ (lines : List (List ℕ)). encode reply ∷ lines) (replies_part replies)

-- Read line by line, they are the replies.
pub replies_back : (replies : List Reply) → Every Writable replies → map reply_of (lines_of (bytes_of replies)) ≡ replies
unfolding Every
replies_back replies w = ap (map reply_of) (replies_part replies) ∙ each replies w
  where
    each : (rs : List Reply) → Every Writable rs → map reply_of (map encode rs) ≡ rs
    each [] w = refl
    each (r ∷ rs) w = ap₂ (λ (x : Reply) (xs : List Reply). x ∷ xs) (reply_back r w.0) (each rs w.1)

-- The bytes that answer a frame, read line by line, are its replies: for slots and counts that fit their widths, as those of lent slices do.
pub answer_back : (frame : Option Frame) (line : List ℕ) (k : Kept) → StoreFits k.store.sheet → StoreFits (answer_to frame line k).kept.store.sheet
    → map reply_of (lines_of (bytes_of (answer_to frame line k).replies)) ≡ (answer_to frame line k).replies
answer_back frame line k before after =
    replies_back (answer_to frame line k).replies (replies_writable frame line k before after)
