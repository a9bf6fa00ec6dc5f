-- The words after `generate`: a number and a size.
use Rattle.std.specs.Prelude.{ℕ, List, Option, Some, None, codes, if◌then◌else◌}
use Rattle.std.specs.Str.{bytes_eq}
use Rattle.mss_command.specs.Numbers.{number_of_word}
use Rattle.mss_gen.specs.declared.size.Size.{Size}
use Rattle.mss_gen.specs.declared.size.Size.TheVariants.{Small, Middle, Large}
use Rattle.mss_generate.specs.declared.generate.Generate.{Generate}

abbrev pub size_word : Size → List ℕ
size_word Small = codes "small"
size_word Middle = codes "middle"
size_word Large = codes "large"

-- the size that a word names
abbrev pub size_of_word : List ℕ → Option Size
size_of_word word = if bytes_eq word (codes "small") then Some Small
    else (if bytes_eq word (codes "middle") then Some Middle
    else (if bytes_eq word (codes "large") then Some Large else None))

abbrev pub generate_with : Option ℕ → Option Size → Option Generate
generate_with (Some number) (Some size) = Some (record { number = number; size = size })
generate_with _ _ = None

-- the command with these words after `generate`
abbrev pub generate_in : List ℕ → List ℕ → Option Generate
generate_in number size = generate_with (number_of_word number) (size_of_word size)
