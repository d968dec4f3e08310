-- "A written table reads back as itself", and 02, R-5: "what is written reads back with the same kind, shape, entries and readings". Of the bytes that a writer
-- left, as many as it says, these are the reader's answer: no refusal and that very table, or that very test with its own table at every cutoff. What a
-- reader's answer is, by the lines of the file alone, is file_reader/specs/Promises; there is no other (`table_back_read`, `test_back_read` in
-- proofs/Written.antt). The entries above reader and writer carry these: crates `c_files` and `c_recorded`.
use Rattle.std.specs.Prelude.{ℕ, List}
use Rattle.table.specs.declared.Table.{Table}
use Rattle.recorded.specs.Tests.{table_of}
use Rattle.recorded.specs.declared.Test.{Test}
use Rattle.file_reader.specs.Promises.{TableOfFile, IsCutoff, TestOfFile}

-- 01's reader reads the file as the table t
pub record TableBack (t : Table) (file : List ℕ) : Type 0 where
  pub reads : TableOfFile file (record { refusal = 0; value = t })

-- the reader with a cutoff reads it as the test t
pub record TestBack (t : Test) (file : List ℕ) : Type 0 where
  pub reads : (cutoff : ℕ) → IsCutoff cutoff → TestOfFile file cutoff (record { refusal = 0; value = record { test = t; table = table_of t cutoff } })
