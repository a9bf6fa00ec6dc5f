-- The files are put one after the other.
use Rattle.std.proofs.Common.{◌≡◌, ◌+◌, ◌++◌, ◌∷◌, ℕ, List, [], map, get_or, sym, ap, arith, ◌∙◌}
use Rattle.std.proofs.lemmas.List.{map_push}
use Rattle.std.proofs.lemmas.List.FromFn.{map-range_with_len_more}
use Rattle.mss_model.specs.Files.{file_name}
use Rattle.mss_command.specs.Outcome.{put_of}
use Rattle.mss_command.specs.declared.reply.Put.{Put}
use Rattle.mss_generate.specs.Puts.{first_puts}

pub put_more : (files : List (List ℕ)) (puts : List Put) (put : Put) (file : ℕ) → map put_of puts ≡ first_puts file files → put_of put ≡ (file_name file, get_or files file [])
    → map put_of (puts ++ put ∷ []) ≡ first_puts (file + 1) files
put_more files puts put file so here =
    map_push put_of puts put ∙ ap (λ before. before ++ put_of put ∷ []) so ∙ ap (λ last. first_puts file files ++ last ∷ []) here
    ∙ sym (map-range_with_len_more (λ f. (file_name f, get_or files f [])) 0 file file (omega arith))
