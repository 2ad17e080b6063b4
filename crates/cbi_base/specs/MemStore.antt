-- A store in memory: its files by their names, and what it holds.
use Rattle.std.specs.Prelude.{ℕ, Bool, true, not, ◌&&◌, List, [], ◌∷◌, map, refl}
use Rattle.std.specs.Coded.{Coded, code_by, coded×, coded_ℕ, coded_list}
use Rattle.std.specs.FinMap.{from_entries, code}
use Rattle.std.specs.List.{list_any}
use Rattle.std.specs.Str.{bytes_eq}
use Rattle.std.specs.String.{string_bytes}
use Rattle.cbi_base.specs.Store.{Held}
use Rattle.cbi_base.specs.declared.mem_store.File.{File}

abbrev pub is_file_named : List ℕ → File → Bool
is_file_named name file = bytes_eq name (string_bytes file.name)

-- no file has the name of one after it
abbrev pub have_distinct_names : List File → Bool
have_distinct_names [] = true
have_distinct_names (file ∷ files) = not (list_any (is_file_named (string_bytes file.name)) files) && have_distinct_names files

abbrev pub file_entry : File → List ℕ × List ℕ
file_entry file = (string_bytes file.name, file.bytes.items)

-- what a store that keeps these files holds
abbrev pub held_of : List File → Held
held_of files = from_entries (map file_entry files)

-- a store in memory
pub record StoreState : Type 0 where
  pub held : Held
  -- the calls so far, reads and writes together
  pub calls : ℕ
  -- the numbers of the calls that are to fail
  pub failing : List ℕ
  pub read_faults : ℕ
  pub write_faults : ℕ

-- a state is stored as the pairs of its fields
abbrev pub coded_state : Coded StoreState
coded_state =
    code_by (Held × (ℕ × (List ℕ × (ℕ × ℕ))))
    (coded× (code (coded_list coded_ℕ) (coded_list coded_ℕ)) (coded× coded_ℕ (coded× (coded_list coded_ℕ) (coded× coded_ℕ coded_ℕ))))
    (λ s. (s.held, (s.calls, (s.failing, (s.read_faults, s.write_faults)))))
    (λ p. record { held = p.0; calls = p.1.0; failing = p.1.1.0; read_faults = p.1.1.1.0; write_faults = p.1.1.1.1 })
    (λ _. refl)
