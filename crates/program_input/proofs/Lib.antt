-- What `read_input` rests on.
mod Reading
