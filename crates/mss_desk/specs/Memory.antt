-- The state of a desk in memory, and what its calls do.
use Rattle.std.specs.Prelude.{◌==◌, ℕ, ◌+◌, ◌-◌, ◌/◌, ◌^◌, min, Bool, List, length, take, Some, refl}
use Rattle.std.specs.List.{list_any}
use Rattle.std.specs.Coded.{Coded, code_by, coded×, coded_ℕ, coded_list}
use Rattle.std.specs.FinMap as map
use Rattle.mss_desk.specs.Desk.{Files, Seen}
use Rattle.mss_desk.specs.declared.desk.WriteAnswer.{WriteAnswer}
use Rattle.mss_desk.specs.declared.desk.WriteAnswer.TheVariants.{Failed}

pub record Memory : Type 0 where
  pub files : Files
  pub said : List ℕ
  -- the numbers of the calls that fail
  pub fails : List ℕ
  -- the calls so far
  pub calls : ℕ
  pub read_faults : ℕ
  pub write_faults : ℕ

abbrev pub bytes_code : Coded (List ℕ)
bytes_code = coded_list coded_ℕ

abbrev pub memory_code : Coded Memory
memory_code =
    code_by ((Files × List ℕ) × ((List ℕ × ℕ) × (ℕ × ℕ)))
    (coded× (coded× (map.code bytes_code bytes_code) bytes_code) (coded× (coded× bytes_code coded_ℕ) (coded× coded_ℕ coded_ℕ)))
    (λ m. ((m.files, m.said), ((m.fails, m.calls), (m.read_faults, m.write_faults))))
    (λ p. record { files = p.0.0; said = p.0.1; fails = p.1.0.0; calls = p.1.0.1; read_faults = p.1.1.0; write_faults = p.1.1.1 })
    (λ _. refl)

abbrev pub memory_seen : Memory → Seen
memory_seen m = record {
  told = Some (record { files = m.files; said = m.said });
  read_faults = m.read_faults;
  write_faults = m.write_faults;
}

-- the number of the next call
abbrev pub next_call : Memory → ℕ
next_call m = min (m.calls + 1) (2 ^ 32 - 1)

-- the next call is one of those that fail
abbrev pub fails_next : Memory → Bool
fails_next m = list_any (λ k. k == next_call m) m.fails

-- a count of faults after one more
abbrev pub one_more : ℕ → ℕ
one_more n = min (n + 1) (2 ^ 64 - 1)

-- the first half of some bytes
abbrev pub half : List ℕ → List ℕ
half bytes = take (length bytes / 2) bytes

-- the count of write faults after an answer
abbrev pub faults_after : WriteAnswer → ℕ → ℕ
faults_after Failed n = one_more n
faults_after _ n = n
