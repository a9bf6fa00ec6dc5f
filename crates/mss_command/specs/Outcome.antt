-- What a command comes to where nothing is wanting, and what a desk holds after it.
use Rattle.std.specs.Prelude.{◌≡◌, ℕ, List, [], ◌∷◌, ◌++◌, map, take}
use Rattle.std.specs.FinMap.{insert}
use Rattle.mss_desk.specs.Desk.{Files, Content, SameBut}
use Rattle.mss_desk.specs.declared.desk.WriteAnswer.{WriteAnswer}
use Rattle.mss_desk.specs.declared.desk.WriteAnswer.TheVariants as writes
use Rattle.mss_command.specs.declared.status.Status.{Status}
use Rattle.mss_command.specs.declared.reply.Put.{Put}
use Rattle.mss_command.specs.declared.reply.Reply.{Reply}

-- the status, the files that are put in their order, and the text that is said
pub record Outcome : Type 0 where
  pub status : Status
  pub puts : List (List ℕ × List ℕ)
  pub text : List ℕ

-- a text is said, and nothing is put
abbrev pub saying : Status → List ℕ → Outcome
saying status text = record { status = status; puts = []; text = text }

-- a file by the bytes of its name and its own
abbrev pub put_of : Put → List ℕ × List ℕ
put_of p = (p.name.now, p.bytes)

abbrev pub outcome_of : Reply → Outcome
outcome_of r = record { status = r.status; puts = map put_of r.puts.items; text = r.text }

-- the files with these put in turn
abbrev pub put_all : List (List ℕ × List ℕ) → Files → Files
put_all [] m = m
put_all (p ∷ ps) m = put_all ps (insert m p.0 p.1)

-- all is put and said
pub record Did (o : Outcome) (c d : Content) : Type 0 where
  pub files : d.files ≡ put_all o.puts c.files
  pub said : d.said ≡ c.said ++ o.text

-- the first few files are put, and nothing is said
pub record DidFirst (o : Outcome) (c d : Content) : Type 0 where
  pub count : ℕ
  pub files : d.files ≡ put_all (take count o.puts) c.files
  pub said : d.said ≡ c.said

-- after a failed put or say: the first few files are put, nothing is known of the next one, and nothing is said;
-- or all are put, and some of the text is said
pub data DidPartly (o : Outcome) (c d : Content) : Type 0 where
  at_put : (before : List (List ℕ × List ℕ)) (name bytes : List ℕ) (after : List (List ℕ × List ℕ))
      → o.puts ≡ before ++ (name, bytes) ∷ after
      → SameBut name (put_all before c.files) d.files → d.said ≡ c.said → DidPartly o c d
  at_say : (n : ℕ) → d.files ≡ put_all o.puts c.files → d.said ≡ c.said ++ take n o.text → DidPartly o c d

-- what is delivered of an outcome, by the answer
abbrev pub Delivers : Outcome → WriteAnswer → Content → Content → Type 0
Delivers o writes.Done c d = Did o c d
Delivers o writes.Failed c d = DidPartly o c d
Delivers o writes.NoMemory c d = DidFirst o c d
