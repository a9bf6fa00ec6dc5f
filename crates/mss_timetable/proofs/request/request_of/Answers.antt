use Rattle.mss_timetable.proofs.OtherWords.{many_words, two_words}
use Rattle.mss_timetable.proofs.request.request_of.Goals as goal

pub returns-in_default-3 : goal.returns-in_default-3
returns-in_default-3 c = two_words c.args.words.now c.in_default.len_at_least c.in_default.len_below

pub returns-in_default-5 : goal.returns-in_default-5
returns-in_default-5 c = many_words c.args.words.now c.in_default.len_at_least
