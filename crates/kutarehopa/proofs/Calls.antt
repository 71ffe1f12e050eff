-- The calls, by whether the octets spell a state.
use mathlib.Core.Path.{◌≡◌}
use mathlib.Core.Bool.{true, false, ◌||◌}
use mathlib.Core.List.{List}
use Prim.Native.Nat.{ℕ}
use borrow.Author.Tests.{eq-eqb, ne_eqb}
use lib.ListN.{length}
use Rattle.link.specs.Answers.{quiet}
use Rattle.link.specs.declared.sender.Lane.{Lane}
use Rattle.link.specs.declared.sender.Sender.{Sender}
use Rattle.link.specs.Sender.{SenderEnd, load, next, seen}
use Rattle.link.specs.Receiver.{receive}
use Rattle.link.specs.PlainSender.{plain_send}
use Rattle.reader.specs.Reading.{read_on}
use Rattle.writer.specs.Writing.{write_on, onto}
use Rattle.kutarehopa.specs.Numbers.{number}
use Rattle.kutarehopa.specs.Layout.{settings_in, spell_receiver, receiver_in, spell_sender, sender_in, spell_plain_sender, plain_sender_in}
use Rattle.kutarehopa.specs.Calls.{no_state, short_for_receiver, short_for_sender, received, receive_call, read_to, read_call, loaded, load_call, sent, next_call, wrote, write_call, no_plain_sender, plain_sent, plain_send_call}

-- ---- the receiver

module _ (m first second : List ℕ) where
  module _ (n : spell_receiver m ≡ false) where
    pub no-receiver : (x : ℕ) → receive_call m x first second
        ≡ record { answer = no_state (settings_in m) (short_for_receiver (settings_in m) first second); state = m; first = first; second = second }
    unfolding receive_call
    no-receiver x = simp n

    pub no_reader : (xs : List ℕ) → (length xs ≡ 0 → ⊥) → read_call m xs first second
        ≡ record { answer = no_state (settings_in m) (short_for_receiver (settings_in m) first second); used = 1; state = m; first = first; second = second }
    unfolding read_call
    no_reader xs h = simp (ne_eqb _ _ h, n)

  module _ (s : spell_receiver m ≡ true) where
    pub a-receiver : (x : ℕ) → receive_call m x first second ≡ received m (receive (record { state = receiver_in m; first = first; second = second }) x)
    unfolding receive_call
    a-receiver x = simp s

    pub a-reader : (xs : List ℕ) → (length xs ≡ 0 → ⊥) → read_call m xs first second
        ≡ read_to m (read_on (record { state = receiver_in m; first = first; second = second }) xs)
    unfolding read_call
    a-reader xs h = simp (ne_eqb _ _ h, s)

  pub reads_nothing : (xs : List ℕ) → length xs ≡ 0 → read_call m xs first second
      ≡ record { answer = number quiet; used = 0; state = m; first = first; second = second }
  unfolding read_call
  reads_nothing xs h = simp (eq-eqb _ _ h)

-- ---- the sender

module _ (l : Lane) (m p area : List ℕ) where
  pub no-loader : spell_sender m ≡ false → load_call l m p area ≡ record { answer = no_state (settings_in m) (short_for_sender (settings_in m) area); state = m; area = area }
  unfolding load_call
  no-loader n = simp n

  pub a-loader : spell_sender m ≡ true → load_call l m p area ≡ loaded m (load l p (sender_in m) area)
  unfolding load_call
  a-loader s = simp s

module _ (m low high : List ℕ) where
  abbrev pub end : Sender → SenderEnd
  end s = record { state = s; low = low; high = high }

  module _ (n : spell_sender m ≡ false) where
    pub no-sender : next_call m low high ≡ record { answer = no_state (settings_in m) (short_for_sender (settings_in m) low || short_for_sender (settings_in m) high); state = m }
    unfolding next_call
    no-sender = simp n

    pub no-writer : (line : List ℕ) → (length line ≡ 0 → ⊥) → write_call m low high line
        ≡ record { answer = no_state (settings_in m) (short_for_sender (settings_in m) low || short_for_sender (settings_in m) high); written = 0; state = m; line = line }
    unfolding write_call
    no-writer line h = simp (ne_eqb _ _ h, n)

  module _ (s : spell_sender m ≡ true) where
    pub a-sender : next_call m low high ≡ sent m (seen (next (end (sender_in m))))
    unfolding next_call
    a-sender = simp s

    pub a-writer : (line : List ℕ) → (length line ≡ 0 → ⊥)
        → write_call m low high line ≡ wrote m (seen (next (end (sender_in m)))).answer (onto line (write_on (length line) (end (sender_in m))))
    unfolding write_call
    a-writer line h = simp (ne_eqb _ _ h, s)

  pub writes_nothing_lem : (line : List ℕ) → length line ≡ 0 → write_call m low high line ≡ record { answer = number quiet; written = 0; state = m; line = line }
  unfolding write_call
  writes_nothing_lem line h = simp (eq-eqb _ _ h)

-- ---- the plain sender

module _ (m p area : List ℕ) where
  pub not-plain-sender : spell_plain_sender m ≡ false → plain_send_call m p area ≡ record { answer = no_plain_sender (plain_sender_in m) p (length area); area = area }
  unfolding plain_send_call
  not-plain-sender n = simp n

  pub a-plain-sender : spell_plain_sender m ≡ true → plain_send_call m p area ≡ plain_sent (plain_send (plain_sender_in m) p area)
  unfolding plain_send_call
  a-plain-sender s = simp s
