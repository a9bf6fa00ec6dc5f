-- The rule for names of rooms, wards, specialties and equipment.
use Rattle.std.specs.Prelude.{ℕ, Bool, false, ◌&&◌, not, ◌==◌, nat_lt, nat_le, List, [], ◌∷◌, length}
use Rattle.std.specs.List.{list_all}
use Rattle.std.specs.Str.{is_utf8}
use Rattle.mss_model.specs.declared.name_rule.TheConstants.{MOST_NAME_BYTES}

-- no control character
abbrev pub is_printed_byte : ℕ → Bool
is_printed_byte byte = not (nat_lt byte 32) && not (byte == 127)

-- the byte `-` alone, which stands for an idle slot
abbrev pub is_dash : List ℕ → Bool
is_dash [] = false
is_dash (byte ∷ []) = byte == 45
is_dash (byte ∷ next ∷ rest) = false

-- 1 to 60 bytes of UTF-8 without control characters, and not `-` alone
abbrev pub is_name_text : List ℕ → Bool
is_name_text bytes = nat_lt 0 (length bytes) && nat_le (length bytes) MOST_NAME_BYTES && not (is_dash bytes) && is_utf8 bytes && list_all is_printed_byte bytes
