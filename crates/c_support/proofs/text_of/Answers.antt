-- `c_support::text_of` meets its contract: each arm has the text of its number in the list, and any other number's is looked for behind these. A further number
-- is one more answer.
use Rattle.std.proofs.Common.{refl, rules}
use Rattle.c_support.specs.Words.{bytes_of, text_in, words_of}
use Rattle.c_support.proofs.Texts.{text_at, text_later}
use Rattle.c_support.proofs.text_of.Goals as goal

pub returns-in-0 : goal.returns-in-0
unfolding bytes_of text_in words_of
returns-in-0 c = text_at words_of _ c.in-0.is refl c.filled.ensures

pub returns-in-1 : goal.returns-in-1
unfolding bytes_of text_in words_of
returns-in-1 c = text_at words_of _ c.in-1.is refl c.filled-in-1.ensures

pub returns-in-2 : goal.returns-in-2
unfolding bytes_of text_in words_of
returns-in-2 c = text_at words_of _ c.in-2.is refl c.filled-in-2.ensures

pub returns-in-3 : goal.returns-in-3
unfolding bytes_of text_in words_of
returns-in-3 c = text_at words_of _ c.in-3.is refl c.filled-in-3.ensures

pub returns-in-4 : goal.returns-in-4
unfolding bytes_of text_in words_of
returns-in-4 c = text_at words_of _ c.in-4.is refl c.filled-in-4.ensures

pub returns-in-5 : goal.returns-in-5
unfolding bytes_of text_in words_of
returns-in-5 c = text_at words_of _ c.in-5.is refl c.filled-in-5.ensures

pub returns-in-6 : goal.returns-in-6
unfolding bytes_of text_in words_of
returns-in-6 c = text_at words_of _ c.in-6.is refl c.filled-in-6.ensures

pub returns-in-7 : goal.returns-in-7
unfolding bytes_of text_in words_of
returns-in-7 c = text_at words_of _ c.in-7.is refl c.filled-in-7.ensures

pub returns-in-8 : goal.returns-in-8
unfolding bytes_of text_in words_of
returns-in-8 c = text_at words_of _ c.in-8.is refl c.filled-in-8.ensures

pub returns-in-9 : goal.returns-in-9
unfolding bytes_of text_in words_of
returns-in-9 c = text_at words_of _ c.in-9.is refl c.filled-in-9.ensures

pub returns-in-10 : goal.returns-in-10
unfolding bytes_of text_in words_of
returns-in-10 c = text_at words_of _ c.in-10.is refl c.filled-in-10.ensures

pub returns-in-11 : goal.returns-in-11
unfolding bytes_of text_in words_of
returns-in-11 c = text_at words_of _ c.in-11.is refl c.filled-in-11.ensures

pub returns-in-12 : goal.returns-in-12
unfolding bytes_of text_in words_of
returns-in-12 c = text_at words_of _ c.in-12.is refl c.filled-in-12.ensures

pub returns-in-13 : goal.returns-in-13
unfolding bytes_of text_in words_of
returns-in-13 c = text_at words_of _ c.in-13.is refl c.filled-in-13.ensures

pub returns-in-14 : goal.returns-in-14
unfolding bytes_of text_in words_of
returns-in-14 c = text_at words_of _ c.in-14.is refl c.filled-in-14.ensures

pub returns-in_default : goal.returns-in_default
unfolding bytes_of text_in words_of
returns-in_default c = text_later {n = c.args.number} (search rules) c.later_text.ensures
