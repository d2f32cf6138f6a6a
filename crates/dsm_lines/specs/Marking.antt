-- How words hold the marks of lines.
use Rattle.std.specs.Prelude.{◌≡◌, ℕ, ◌+◌, ◌/◌, ◌≤◌, false, List, length}
use Rattle.dsm_lines.specs.Bits.{is_bit, IsSummary}

-- a word a page of 64 lines and a summary word for 64 pages; only lines are marked, and the summary tells where
pub record IsMarking (lines : ℕ) (words summary : List ℕ) : Type 0 where
  pub pages : length words ≡ (lines + 63) / 64
  pub groups : length summary ≡ (length words + 63) / 64
  pub within : (line : ℕ) → lines ≤ line → is_bit words line ≡ false
  pub agrees : IsSummary words summary
