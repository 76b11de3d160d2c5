-- What a writer writes into its row.
use Rattle.std.specs.Prelude.{◌≡◌, ℕ, ◌+◌, ◌≤◌, List, length}
use Rattle.host.specs.Text.{Wrote}
use Rattle.host.specs.declared.writer.Writer.{Writer}

-- n bytes more fit into the row
abbrev pub HasRoom : Writer → ℕ → Type 0
HasRoom w n = w.at + n ≤ length w.row.now

-- a writer that was `was` has written a text after what was written before: into the same row, which is as long as before, and as it was
-- before and after that text
pub record Writes (was now : Writer) (text : List ℕ) : Type 0 where
  pub same_row : now.row.ghost_name ≡ was.row.ghost_name
  pub same_length : length now.row.now ≡ length was.row.now
  pub wrote : Wrote was.row.now now.row.now was.at now.at text
